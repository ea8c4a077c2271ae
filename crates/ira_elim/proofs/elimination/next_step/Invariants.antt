use Rattle.std.proofs.Common.{◌≡◌, length, sum}
use Rattle.ira_elim.specs.Elimination.{AreStands, HasEliminations}
use Rattle.ira_elim.proofs.elimination.next_step.Given as goal

abbrev pub invariant-pairs : goal.invariant-pairs
invariant-pairs g l = record {
  stands : AreStands (g.C.HappenedBefore.logs_of l.ordered) l.queues l.stands.items;
  nodes : length l.stands.items ≡ length l.fn.stands.items;
  pairs : HasEliminations (g.C.HappenedBefore.logs_of l.ordered) l.queues l.pairs;
}

abbrev pub decreases-pairs : goal.decreases-pairs
decreases-pairs g l = sum l.pairs
