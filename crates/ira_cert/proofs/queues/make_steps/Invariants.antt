use Rattle.std.proofs.Common.{List, take}
use Rattle.ira_pred.specs.Case.{Conjunct}
use Rattle.ira_cert.specs.Conjuncts.{HasDifferentPlaces}
use Rattle.ira_cert.specs.LastCount.{IsKnown}
use Rattle.ira_cert.specs.Queues.{AreQueues}
use Rattle.ira_cert.specs.QueuesAfter.{AreQueuesAfter}
use Rattle.ira_cert.specs.SoundSection.{AreSoundSteps}
use Rattle.ira_cert.proofs.queues.make_steps.Given as goal

abbrev pub invariant-loop-early : goal.invariant-loop-early
invariant-loop-early g l = (case : List Conjunct) → HasDifferentPlaces case
    → AreQueues (g.C.HappenedBefore.logs_of l.ordered) case l.fn.queues
    → AreSoundSteps (g.C.HappenedBefore.logs_of l.ordered) case (take l.from l.steps)
    → AreQueuesAfter (g.C.HappenedBefore.logs_of l.ordered) case (take l.early l.steps) l.queues

abbrev pub invariant-loop-k : goal.invariant-loop-k
invariant-loop-k g l = record {
  known : IsKnown (g.C.HappenedBefore.logs_of l.ordered) l.last;
  made : (case : List Conjunct) → HasDifferentPlaces case
      → AreQueues (g.C.HappenedBefore.logs_of l.ordered) case l.fn.queues
      → AreSoundSteps (g.C.HappenedBefore.logs_of l.ordered) case (take l.from l.steps)
      → AreSoundSteps (g.C.HappenedBefore.logs_of l.ordered) case (take l.k l.steps)
      × AreQueuesAfter (g.C.HappenedBefore.logs_of l.ordered) case (take l.k l.steps) l.queues;
}
