use Rattle.std.proofs.Common.{◌≡◌, length}
use Rattle.ira_cand.specs.Holding.{positions_passing}
use Rattle.ira_cand.proofs.holding.HoldingIterator.next.Given as goal

abbrev pub invariant-loop-position : goal.invariant-loop-position
invariant-loop-position g l =
    positions_passing (g.T.LocalTest.holds l.self-inside.test) (g.S.Listed.left l.self-inside.states) ≡ l.fn.self

abbrev pub decreases-loop-position : goal.decreases-loop-position
decreases-loop-position g l = length (g.S.Listed.left l.self-inside.states)
