-- What is found of a case, and what is told of it.
use Rattle.std.specs.Prelude.{◌≡◌, ◌==◌, ℕ, ◌-◌, Bool, true, false, List, [], ◌++◌, codes, decimal, length, nat_eq}
use Rattle.std.specs.Prelude.{Some, if◌then◌else◌, slice_get, take, ⊤}
use Rattle.std.specs.List.{flat_map, list_any}
use Rattle.ira_event.specs.Log.{Log}
use Rattle.ira_pred.specs.Case.{Conjunct}
use Rattle.ira_cert_text.specs.Certificate.{Section}
use Rattle.ira_elim.specs.declared.found.Found.{Found}
use Rattle.ira_elim.specs.declared.found.Found.TheVariants as found
use Rattle.ira_elim.specs.LeastCut.{IsLeastCut}
use Rattle.ira_audit.specs.AskedQuestion.{AskedQuestion}
use Rattle.ira_view_moment.specs.Moment.{IsMoment}
use Rattle.ira_view_evidence.specs.declared.elimination.Elimination.{Elimination}
use Rattle.ira_view_evidence.specs.declared.absence.Absence.{Absence}
use Rattle.ira_view_evidence.specs.Absence.{ShowsAbsence}
use Rattle.ira_view_evidence.specs.Elimination.{AreOfSteps}
use Rattle.ira_view_page.specs.declared.named_text.NamedText.{NamedText}
use Rattle.ira_view_page.specs.Quoted.{quoted_text}
use Rattle.ira_view_explain_question.specs.declared.asked_files.AskedFiles.{AskedFiles}
use Rattle.ira_view_explain_question.specs.declared.case_finding.CaseFinding.{CaseFinding}
use Rattle.ira_view_explain_question.specs.declared.case_finding.CaseFinding.TheVariants.{Absent, Present}
use Rattle.ira_view_explain_question.specs.AskedLines.{IsClauseAt}
use Rattle.ira_view_explain_question.specs.EliminationLines.{elimination_text}

-- the steps of the section that was found, put together, which show why no moment meets the case
pub record IsAbsenceOf {A : Type 0} (logs : List Log) (case : List Conjunct) (section : Section) (absence : Absence A)
    : Type 0 where
  pub shows : ShowsAbsence logs case absence.eliminations.items absence.spent
  pub steps : AreOfSteps section.steps absence.eliminations.items
  pub spent : absence.spent ≡ section.spent

-- the moment of the least cut that was found, or why there is none
abbrev pub IsCaseFinding : {A : Type 0} → List Log → List Conjunct → Found A → CaseFinding A → Type 0
IsCaseFinding logs case (found.Present cut) (Present moment) = IsLeastCut logs case cut × IsMoment logs cut moment
IsCaseFinding logs case (found.Absent section) (Absent absence) = IsAbsenceOf logs case section absence
IsCaseFinding logs case _ _ = ⊥

-- some of them eliminates states of the node
abbrev pub eliminates : List Elimination → ℕ → Bool
eliminates all node = list_any (λ e. e.node == node) all

-- that the spent node has no state left that meets these words
abbrev pub spent_text : Bool → ℕ → List ℕ → List ℕ
spent_text true node clause =
    codes "    Each state of node " ++ decimal node ++ codes " that meets `" ++ quoted_text clause
    ++ codes "` is ruled out:"
    ++ codes "\n"
spent_text false node clause =
    codes "    Node " ++ decimal node ++ codes " never met `" ++ quoted_text clause ++ codes "`." ++ codes "\n"

-- how many eliminations there are besides, if there are any
abbrev pub more_eliminations_text : ℕ → List ℕ
more_eliminations_text count =
    if nat_eq count 0 then [] else codes "      .. and " ++ decimal count ++ codes " more" ++ codes "\n"

-- at most twelve eliminations, and how many there are besides
abbrev pub eliminations_text : List NamedText → List Log → List Elimination → List ℕ
eliminations_text files logs all =
    flat_map (elimination_text files logs) (take 12 all) ++ more_eliminations_text (length all - 12)

-- so the file spells what the case of a number asks of a node
pub record IsAskedOf (question : NamedText) (cases : List (List Conjunct)) (number : ℕ) (case : List Conjunct)
    (node : ℕ) (clause : List ℕ) : Type 0 where
  pub n : ℕ
  pub conjunct : Conjunct
  pub is_there : slice_get case n ≡ Some conjunct
  pub of_node : conjunct.place ≡ node
  pub is_clause : IsClauseAt question cases number n clause

-- the lines on a case that is absent: the spent node, and the eliminations
pub record TellsAbsence {A : Type 0} (files : AskedFiles) (asked : AskedQuestion) (number : ℕ) (case : List Conjunct)
    (absence : Absence A) (lines : List ℕ) : Type 0 where
  pub clause : List ℕ
  pub is_asked : IsAskedOf files.question.now asked.question.cases number case absence.spent clause
  pub is : lines
      ≡ spent_text (eliminates absence.eliminations.items absence.spent) absence.spent clause
      ++ eliminations_text files.logs.now asked.logs absence.eliminations.items

-- the lines tell it; of a moment nothing is said here
abbrev pub TellsFinding : {A : Type 0} → AskedFiles → AskedQuestion → ℕ → List Conjunct → CaseFinding A → List ℕ
    → Type 0
TellsFinding files asked number case (Present moment) lines = ⊤
TellsFinding files asked number case (Absent absence) lines = TellsAbsence files asked number case absence lines
