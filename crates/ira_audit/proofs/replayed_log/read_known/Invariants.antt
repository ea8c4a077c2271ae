use Rattle.std.proofs.Common.{◌≡◌, ◌≤◌, ◌-◌, length, ℕ, List, None}
use Rattle.ira_node.specs.declared.node_state.NodeState.{NodeState}
use Rattle.ira_audit.specs.Replaying.{HasKept}
use Rattle.ira_audit.proofs.replayed_log.read_known.Given as goal

abbrev pub invariant-loop-received : goal.invariant-loop-received
invariant-loop-received g l = record {
  kept : (version : ℕ) (text : List ℕ) (first : NodeState)
      → HasKept version text l.nodes first l.fn.records l.fn.events l.fn.state None
      → HasKept version text l.nodes first l.left l.events l.fn.state None;
  same : l.state ≡ l.fn.state;
  shorter : length l.left.rest ≤ length l.fn.records.rest;
}

abbrev pub decreases-loop-received : goal.decreases-loop-received
decreases-loop-received g l = l.known - l.received
