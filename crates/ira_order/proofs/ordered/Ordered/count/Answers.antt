use Rattle.std.proofs.Common.{sym, subst}
use Rattle.ira_order.specs.Ordered.{IsOrdered}
use Rattle.ira_order.specs.VectorClock.{IsCount}
use Rattle.ira_order.proofs.Counting.{count_own}
use Rattle.ira_order.proofs.ordered.Ordered.count.Goals as goal

pub returns-then-i-j-clause-count : goal.returns-then-i-j-clause-count
returns-then-i-j-clause-count g c =
    let valid : IsOrdered c.args.self.now = subst IsOrdered c.self.view_is c.self.invariant.0 in
    subst (λ i. IsCount c.args.self.now.logs c.args.j c.args.b i c.args.b) (sym c.if-i-j.true)
    (count_own c.args.self.now.logs c.args.self.now.schedule valid.order c.args.j c.args.b c.requires.places.0
    c.requires.position)
