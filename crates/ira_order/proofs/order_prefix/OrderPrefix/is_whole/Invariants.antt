use Rattle.std.proofs.Common.{ℕ, ◌<◌, ◌≤◌, length}
use Rattle.ira_order.specs.Ring.{log_of}
use Rattle.ira_order.specs.OrderPrefix.{tally_at}
use Rattle.ira_order.proofs.order_prefix.OrderPrefix.is_whole.Given as goal

abbrev pub invariant-loop-place : goal.invariant-loop-place
invariant-loop-place g l = (j : ℕ) → j < l.place → length (log_of l.logs j) ≤ (tally_at l.self.tallies j).events
