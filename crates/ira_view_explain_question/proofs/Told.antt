-- What is told of eliminations.
use Rattle.std.proofs.Common.{◌≡◌, ◌∙◌, ℕ, ◌-◌, ◌≤◌, List, ◌++◌, ap, arith, length, min, take}
use Rattle.std.specs.List.{flat_map}
use Rattle.ira_event.specs.Log.{Log}
use Rattle.ira_pred.specs.Case.{Conjunct}
use Rattle.ira_elim.specs.declared.found.Found.{Found}
use Rattle.ira_elim.specs.declared.found.Found.TheVariants as found
use Rattle.ira_view_evidence.specs.Absence.{ShowsAbsence}
use Rattle.ira_view_evidence.specs.declared.absence.Absence.{Absence}
use Rattle.ira_view_explain_question.specs.declared.case_finding.CaseFinding.TheVariants as finding
use Rattle.ira_view_explain_question.specs.CaseFinding.{IsCaseFinding, more_eliminations_text}
use Rattle.std.proofs.lemmas.List.{take_all}
use Rattle.ira_view_evidence.specs.declared.elimination.Elimination.{Elimination}
use Rattle.ira_view_show.proofs.Lines.{take_shown}

-- the first eliminations, and how many there are besides
pub eliminations_told : (f : Elimination → List ℕ) (all : List Elimination) (told i : ℕ) → told ≡ min (length all) 12
    → length (take told all) ≤ i
    → flat_map f (take i (take told all)) ++ more_eliminations_text (length all - told)
    ≡ flat_map f (take 12 all) ++ more_eliminations_text (length all - 12)
eliminations_told f all told i is past =
    let count : length all - told ≡ length all - 12 = omega (arith, is) in
    let same : take i (take told all) ≡ take 12 all = take_all i (take told all) past ∙ take_shown all told 12 is in
    ap (λ es. flat_map f es ++ more_eliminations_text (length all - told)) same
    ∙ ap (λ k. flat_map f (take 12 all) ++ more_eliminations_text k) count

-- what is found absent is shown so
pub absence_shown : {A : Type 0} (logs : List Log) (case : List Conjunct) (f : Found A) (absence : Absence A)
    → IsCaseFinding logs case f (finding.Absent absence)
    → ShowsAbsence logs case absence.eliminations.items absence.spent
absence_shown logs case (found.Absent section) absence is = is.shows
absence_shown logs case (found.Present cut) absence is = absurd is
