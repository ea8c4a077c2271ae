use Rattle.std.proofs.Common.{◌≡◌, ℕ, ◌+◌, ◌≤◌, List, length}
use Rattle.ira_pred.specs.Case.{Conjunct}
use Rattle.ira_cert_text.specs.declared.cert_step.CertStep.{CertStep}
use Rattle.ira_cert.specs.Conjuncts.{HasDifferentPlaces}
use Rattle.ira_cert.specs.Queues.{AreQueues, HasList}
use Rattle.ira_elim.specs.Elimination.{AreStands, HasEliminations, IsFirstLeft}
use Rattle.ira_elim.proofs.Steps.{AreMade, total}
use Rattle.ira_elim.proofs.elimination.decide_queues.Given as goal

abbrev pub invariant-steps : goal.invariant-steps
invariant-steps g l = (taken : List CertStep) × record {
  has : g.S.StepSink.has_taken l.steps taken;
  made : (case : List Conjunct) → HasDifferentPlaces case
      → AreQueues (g.C.HappenedBefore.logs_of l.ordered) case l.fn.queues.items
      → AreMade (g.C.HappenedBefore.logs_of l.ordered) case taken l.queues.items;
  count : length taken + total l.queues.items ≡ total l.fn.queues.items;
  places : length l.queues.items ≤ length (g.C.HappenedBefore.logs_of l.ordered);
  left : (i : ℕ) → HasList l.queues.items i → (p : ℕ) × IsFirstLeft l.queues.items i p;
  nodes : length l.stands.items ≡ length (g.C.HappenedBefore.logs_of l.ordered);
  stands : AreStands (g.C.HappenedBefore.logs_of l.ordered) l.queues.items l.stands.items;
  pairs : HasEliminations (g.C.HappenedBefore.logs_of l.ordered) l.queues.items l.pairs;
}

abbrev pub decreases-steps : goal.decreases-steps
decreases-steps g l = total l.queues.items
