use Rattle.std.proofs.Common.{◌≢◌, length}
use Rattle.ira_order.specs.DirectDependencies.{IsWayBack, distance}
use Rattle.ira_order.proofs.direct_dependencies.DirectDependenciesHappenedBefore.count.Given as goal

abbrev pub invariant-back : goal.invariant-back
invariant-back g l = record {
  apart : l.node ≢ l.i;
  way : IsWayBack l.self l.j l.b l.i l.node l.received;
}

abbrev pub decreases-back : goal.decreases-back
decreases-back g l = distance (length l.self) l.i l.node
