use Rattle.std.proofs.Common.{◌≡◌, ◌++◌, Some}
use Rattle.ira_node.specs.NodeState.{first_state}
use Rattle.ira_replay.specs.StatesLeft.{states_left}
use Rattle.ira_view_evidence.proofs.LastStates.{kept}
use Rattle.ira_view_evidence.proofs.node_evidence.NodeEvidence.find.Given as goal

abbrev pub invariant-loop-position : goal.invariant-loop-position
invariant-loop-position g l =
    l.states.items ++ kept l.first l.position-iterator
    ≡ kept l.first (states_left l.log.nodes (Some (0, first_state l.log.initiator)) l.log.events)
