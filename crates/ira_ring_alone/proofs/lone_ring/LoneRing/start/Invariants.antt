use Rattle.std.proofs.Common.{◌≡◌, ℕ, ◌<◌, length}
use Rattle.ira_ring_alone.specs.LoneRing.{node_at}
use Rattle.ira_ring_alone.proofs.LoneStarts.{first_node}
use Rattle.ira_ring_alone.proofs.lone_ring.LoneRing.start.Given as goal

abbrev pub invariant-loop-i : goal.invariant-loop-i
invariant-loop-i g l = record {
  many : length l.nodes.items ≡ l.i;
  each : (j : ℕ) → j < l.i → node_at l.nodes.items j ≡ first_node l.setup j;
}
