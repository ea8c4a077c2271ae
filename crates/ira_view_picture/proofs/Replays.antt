-- A log replayed event by event.
use Rattle.std.proofs.Common.{◌≡◌, ℕ, Option, None, false, Some}
use Rattle.std.specs.Prelude.{is_some}
use Rattle.ira_event.specs.Log.{Log}
use Rattle.ira_node.specs.declared.node_state.NodeState.{NodeState}
use Rattle.ira_replay.specs.declared.replay_fault.ReplayFault.{ReplayFault}
use Rattle.ira_view_picture.specs.Lane.{IsReplayed}
use Rattle.ira_view_trail.specs.StateTrail.{Reaches}

-- without a stop the events lead to the last state
pub still_going : (log : Log) (n : ℕ) (end : NodeState) (first_fault : Option ReplayFault) → false ≡ is_some first_fault
    → IsReplayed log n end first_fault → Reaches log n end
still_going log n end None none is = is
still_going log n end (Some f) none is = (let no : ⊥ = cc in absurd no)

pub goes_on : (log : Log) (n : ℕ) (end : NodeState) (first_fault : Option ReplayFault) → false ≡ is_some first_fault
    → Reaches log n end → IsReplayed log n end first_fault
goes_on log n end None none reached = reached
goes_on log n end (Some f) none reached = (let no : ⊥ = cc in absurd no)
