use Rattle.std.proofs.Common.{◌≡◌, ℕ, ◌+◌, ◌<◌, length, get_or, drop}
use Rattle.std.specs.Vec.Iter.{into_iter_items, into_iter_len}
use Rattle.ira_ring_setup.proofs.FullRuns.{no_log}
use Rattle.ira_ring_alone.proofs.LoneLogs.{log_at}
use Rattle.ira_ring_alone.proofs.lone_ring.LoneRing.into_logs.Given as goal

abbrev pub invariant-loop-node : goal.invariant-loop-node
invariant-loop-node g l = record {
  rest : into_iter_items l.node-iterator ≡ drop l.place l.fn.self.nodes.items;
  left : into_iter_len l.node-iterator + l.place ≡ length l.fn.self.nodes.items;
  many : length l.logs.items ≡ l.place;
  each : (j : ℕ) → j < l.place → get_or l.logs.items j no_log ≡ log_at l.fn.self.setup.now l.fn.self.nodes.items j;
}
