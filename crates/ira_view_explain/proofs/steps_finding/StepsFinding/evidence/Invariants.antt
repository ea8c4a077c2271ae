use Rattle.std.proofs.Common.{take}
use Rattle.ira_view_explain.specs.Refused.{AreStepsTold}
use Rattle.ira_view_explain.proofs.steps_finding.StepsFinding.evidence.Given as goal

abbrev pub invariant-loop-other : goal.invariant-loop-other
invariant-loop-other g l =
    AreStepsTold l.ring.files.now l.self.named.at l.self.log.stopped.event (take l.other-index l.other-items)
    l.told.items
