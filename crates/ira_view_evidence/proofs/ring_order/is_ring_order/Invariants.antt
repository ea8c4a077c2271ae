use Rattle.std.proofs.Common.{ℕ, ◌<◌}
use Rattle.ira_view_evidence.specs.RingOrder.{StandsAt}
use Rattle.ira_view_evidence.proofs.ring_order.is_ring_order.Given as goal

abbrev pub invariant-loop-i : goal.invariant-loop-i
invariant-loop-i g l = (i : ℕ) → i < l.i → StandsAt l.logs l.order i
