-- What is found of a case, whatever became of the steps.
use Rattle.std.specs.Prelude.{List}
use Rattle.ira_event.specs.Log.{Log}
use Rattle.ira_pred.specs.Case.{Conjunct}
use Rattle.ira_cert_text.specs.declared.cert_step.CertStep.{CertStep}
use Rattle.ira_elim.specs.declared.decided.Decided.{Decided}
use Rattle.ira_elim.specs.declared.decided.Decided.TheVariants.{Absent, Present}
use Rattle.ira_elim.specs.Found.{IsAbsence}
use Rattle.ira_elim.specs.LeastCut.{IsLeastCut}

-- the steps that were taken and the spent node are a section that shows it absent, or this is the least consistent cut
-- that meets it; the first relation tells which steps were taken
abbrev pub IsDecided : {S A : Type 0} → (S → List CertStep → Type 0) → List Log → List Conjunct → Decided S A → Type 0
IsDecided has_taken logs case (Absent steps spent) =
    (taken : List CertStep) × has_taken steps taken × IsAbsence logs case (record { steps = taken; spent = spent })
IsDecided has_taken logs case (Present cut) = IsLeastCut logs case cut
