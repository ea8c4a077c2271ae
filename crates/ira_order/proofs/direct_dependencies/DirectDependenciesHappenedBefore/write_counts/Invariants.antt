use Rattle.std.proofs.Common.{length}
use Rattle.ira_order.specs.DirectDependencies.{AreCountsSoFar, distance}
use Rattle.ira_order.proofs.direct_dependencies.DirectDependenciesHappenedBefore.write_counts.Given as goal

abbrev pub invariant-back : goal.invariant-back
invariant-back g l = AreCountsSoFar l.self l.j l.b l.node l.received l.counts

abbrev pub decreases-back : goal.decreases-back
decreases-back g l = distance (length l.self) l.j l.node
