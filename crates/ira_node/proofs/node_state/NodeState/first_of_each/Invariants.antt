use Rattle.std.proofs.Common.{◌≡◌, map, take}
use Rattle.ira_node.specs.NodeState.{first_state}
use Rattle.ira_node.proofs.node_state.NodeState.first_of_each.Given as goal

abbrev pub invariant-loop-place : goal.invariant-loop-place
invariant-loop-place g l = l.states.items ≡ map (λ log. first_state log.initiator) (take l.place l.logs)
