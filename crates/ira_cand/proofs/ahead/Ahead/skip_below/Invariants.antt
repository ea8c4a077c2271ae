use Rattle.std.proofs.Common.{◌≡◌, nat_le, filter, length}
use Rattle.ira_cand.proofs.ahead.Ahead.skip_below.Given as goal

abbrev pub invariant-loop-position : goal.invariant-loop-position
invariant-loop-position g l = filter (nat_le l.p) l.self ≡ filter (nat_le l.p) l.fn.self

abbrev pub decreases-loop-position : goal.decreases-loop-position
decreases-loop-position g l = length l.self
