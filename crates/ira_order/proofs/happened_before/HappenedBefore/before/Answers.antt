use Rattle.ira_order.proofs.Counting.{own_test}
use Rattle.ira_order.proofs.happened_before.HappenedBefore.before.Goals as goal

pub returns-else-i-j : goal.returns-else-i-j
returns-else-i-j g c =
    let has = c.count-count.ensures.valid in
    own_test (g.Self.HappenedBefore.logs_of c.args.self.now) has.1 has.2 c.args.i c.args.a c.args.j c.args.b _
    c.if-i-j.false c.requires.first.0 c.if-a-count.true c.count-count.ensures.count
