-- The kind of event that can have a step in a state.
use Rattle.std.specs.Prelude.{◌≡◌, ℕ, ◌<◌, ◌≤◌, Option, Some, None, true, if◌then◌else◌, nat_lt}
use Rattle.ira_event.specs.Limits.{MAX_NUMBER}
use Rattle.ira_event.specs.declared.load.Load.{Load}
use Rattle.ira_event.specs.declared.event.Event.{Event}
use Rattle.ira_event.specs.declared.event.Event.TheVariants.{Draw, Sent, Got, Yield}
use Rattle.ira_event.specs.Event.{is_load}
use Rattle.ira_node.specs.declared.phase.Phase.{Phase}
use Rattle.ira_node.specs.declared.phase.Phase.TheVariants.{Choosing, Active, Passive, Leader, Yielding}
use Rattle.ira_node.specs.declared.node_state.NodeState.{NodeState}
use Rattle.ira_node.specs.declared.wanted.Wanted.{Wanted}
use Rattle.ira_node.specs.declared.wanted.Wanted.TheVariants.{Draw as WantsDraw, Send, Receipt, Yield as WantsYield}
use Rattle.ira_node.specs.declared.wanted.Wanted.TheVariants.{Nothing}
use Rattle.ira_node.specs.NodeStep.{HasStep}

-- the event is of the kind that is wanted
abbrev pub IsOfKind : Wanted → Event → Type 0
IsOfKind WantsDraw (Draw id) = Unit {0}
IsOfKind (Send l) (Sent k) = k ≡ l
IsOfKind Receipt (Got l) = Unit {0}
IsOfKind WantsYield Yield = Unit {0}
IsOfKind _ _ = ⊥

-- where the node has yielded, another term may follow its own
abbrev pub HasNextTerm : NodeState → Type 0
HasNextTerm s = s.phase ≡ Yielding → s.term < MAX_NUMBER

-- an event of that kind has a step: each draw of an ID of 1 to n, the sending of the load, the yield,
-- and the receipt of some load that a record may hold, unless the node yielded in the last term
abbrev pub CanCome : ℕ → NodeState → Wanted → Type 0
CanCome n s WantsDraw = (id : ℕ) → 1 ≤ id → id ≤ n → HasStep n s (Draw id)
CanCome n s (Send l) = HasStep n s (Sent l)
CanCome n s Receipt = HasNextTerm s → (l : Load) × (is_load l ≡ true) × HasStep n s (Got l)
CanCome n s WantsYield = HasStep n s Yield
CanCome n s Nothing = (e : Event) → ¬ (HasStep n s e)

-- what is wanted in the phase where nothing is owed, by a node that doesn't lead
abbrev pub wanted_free : Phase → Wanted
wanted_free (Choosing round) = WantsDraw
wanted_free (Active round id) = Receipt
wanted_free Passive = Receipt
wanted_free (Leader round id) = Nothing
wanted_free Yielding = Receipt

-- what is wanted by a leader of this term
abbrev pub wanted_leading : ℕ → Wanted
wanted_leading term = if nat_lt term MAX_NUMBER then WantsYield else Nothing

-- what is wanted by term, phase and debt: a yield or nothing by a leader, else a debt comes first
abbrev pub wanted_of : ℕ → Phase → Option Load → Wanted
wanted_of term (Leader round id) owed = wanted_leading term
wanted_of term phase (Some l) = Send l
wanted_of term phase None = wanted_free phase
