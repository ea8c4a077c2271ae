use Rattle.std.proofs.Common.{◌≡◌, ℕ, ◌<◌, length, get_or}
use Rattle.ira_ring_setup.specs.declared.node_end.NodeEnd.TheVariants.{Quiet}
use Rattle.ira_ring_alone.specs.LoneNode.{Ends}
use Rattle.ira_ring_alone.specs.LoneRing.{node_at}
use Rattle.ira_ring_alone.proofs.lone_ring.LoneRing.ends.Given as goal

abbrev pub invariant-loop-node : goal.invariant-loop-node
invariant-loop-node g l = record {
  many : length l.ends.items ≡ l.node-index;
  each : (j : ℕ) → j < l.node-index
      → Ends l.self.setup.now.nodes l.self.setup.now.cap l.self.setup.now.terms (node_at l.self.nodes.items j)
      (get_or l.ends.items j Quiet);
}
