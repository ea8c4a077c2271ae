use Rattle.ira_view_moment.proofs.OnTheWay.{Kept}
use Rattle.ira_view_moment.proofs.moment.sendings_after.Given as goal

abbrev pub invariant-loop-k : goal.invariant-loop-k
invariant-loop-k g l = Kept l.log.events l.received l.k l.passed l.loads.items
