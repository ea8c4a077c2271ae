use Rattle.std.proofs.Common.{◌≡◌, length}
use Rattle.ira_par.specs.Share.{IsFoundBy}
use Rattle.ira_par.proofs.share.Share.judge.Given as goal

abbrev pub invariant-loop-section : goal.invariant-loop-section
invariant-loop-section g l = record {
  places : length l.self-inside.queues.items ≡ l.fn.self.places;
  found : IsFoundBy (g.C.HappenedBefore.logs_of l.ordered) l.depth l.number l.section l.tasks l.self-inside.found;
}
