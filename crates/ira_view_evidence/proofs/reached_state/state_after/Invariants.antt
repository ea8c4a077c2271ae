use Rattle.std.proofs.Common.{◌≡◌, Some}
use Rattle.ira_node.specs.NodeState.{first_state}
use Rattle.ira_replay.specs.StatesLeft.{states_left}
use Rattle.ira_view_evidence.proofs.StatesAfter.{state_at}
use Rattle.ira_view_evidence.proofs.reached_state.state_after.Given as goal

abbrev pub invariant-loop-position : goal.invariant-loop-position
invariant-loop-position g l =
    state_at l.events l.position-iterator
    ≡ state_at l.events (states_left l.log.nodes (Some (0, first_state l.log.initiator)) l.log.events)
