-- Nodes of logs of version 1: they never owe a reset.
use Rattle.std.specs.Prelude.{◌≡◌, ℕ, Bool, true, false, not, Option, Some, None}
use Rattle.ira_event.specs.declared.load.Load.{Load}
use Rattle.ira_event.specs.declared.event.Event.{Event}
use Rattle.ira_event.specs.declared.event.Event.TheVariants.{Sent}
use Rattle.ira_event.specs.Event.{is_reset, is_later}
use Rattle.ira_node.specs.declared.node_state.NodeState.{NodeState}
use Rattle.ira_node.specs.NodeStep.{NodeStep}

-- no reset is owed
abbrev pub is_plain : Option Load → Bool
is_plain None = true
is_plain (Some l) = not (is_reset l)

-- after each event that version 1 has no reset is owed, whatever was before
abbrev pub OwesNoReset : Type 0
OwesNoReset = (n : ℕ) (s : NodeState) (e : Event) (t : NodeState) → is_later e ≡ false → NodeStep n s e t
    → is_plain t.owed ≡ true

-- a node that owes none sends none
abbrev pub SendsNoReset : Type 0
SendsNoReset = (n : ℕ) (s : NodeState) (l : Load) (t : NodeState) → is_plain s.owed ≡ true → NodeStep n s (Sent l) t
    → is_reset l ≡ false
