-- Helpers, no definitions: messages that a node passes on or purges and stays as it was.
use Rattle.std.specs.Prelude.{ℕ, ◌<◌}
use Rattle.ira_event.specs.Limits.{MAX_NUMBER}
use Rattle.ira_event.specs.declared.msg.Msg.{Msg}
use Rattle.ira_event.specs.declared.load.Load.TheVariants.{Msg as Message}
use Rattle.ira_event.specs.declared.event.Event.TheVariants.{Sent, Got}
use Rattle.ira_node.specs.declared.handling.Handling.{Handling}
use Rattle.ira_node.specs.declared.handling.Handling.TheVariants.{Passes, Purges}
use Rattle.ira_node.specs.declared.phase.Phase.{Phase}
use Rattle.ira_node.specs.Msg.{raised}
use Rattle.ira_node.specs.NodeState.{free, owing}
use Rattle.ira_node.specs.NodeStep.{NodeStep}

-- a free node in the phase receives the message and, where it passes it on, sends it, and is as it was
abbrev pub Handles : ℕ → Phase → Msg → Handling → Type 0
Handles n phase m Passes =
    (m.hop < MAX_NUMBER)
    × ((term : ℕ) → NodeStep n (free term phase) (Got (Message m)) (owing term phase (Message (raised m))))
    × ((term : ℕ) → NodeStep n (owing term phase (Message (raised m))) (Sent (Message (raised m))) (free term phase))
Handles n phase m Purges = (term : ℕ) → NodeStep n (free term phase) (Got (Message m)) (free term phase)
