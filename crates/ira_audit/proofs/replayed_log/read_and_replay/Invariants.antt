use Rattle.std.proofs.Common.{length}
use Rattle.ira_node.specs.NodeState.{first_state}
use Rattle.ira_audit.specs.Replaying.{HasKept}
use Rattle.ira_audit.proofs.replayed_log.read_and_replay.Given as goal

abbrev pub invariant-loop-state : goal.invariant-loop-state
invariant-loop-state g l =
    HasKept l.fn.records.version l.fn.records.rest l.nodes (first_state l.initiator) l.records l.events l.state
    l.first_fault

abbrev pub decreases-loop-state : goal.decreases-loop-state
decreases-loop-state g l = length l.records.rest
