use Rattle.std.proofs.Common.{ℕ, ◌<◌, ◌≡◌, length}
use Rattle.ira_order.specs.Order.{occurrences}
use Rattle.ira_order.specs.OrderPrefix.{IsOrderPrefix, HasGrown, IsStuckAt}
use Rattle.ira_order.proofs.order_prefix.OrderPrefix.round.Given as goal

abbrev pub invariant-loop-i : goal.invariant-loop-i
invariant-loop-i g l = record {
  prefix : IsOrderPrefix l.logs l.self;
  further : HasGrown l.fn.self.places l.self.places;
  stuck : length l.self.places ≡ length l.fn.self.places → (j : ℕ) → j < l.i
      → IsStuckAt l.logs (occurrences l.self.places) j;
}
