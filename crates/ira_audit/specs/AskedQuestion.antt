-- A question that is asked of the ring of some logs, and what is found for its cases.
use Rattle.std.specs.Prelude.{◌≡◌, ℕ, List, Some, length, slice_get, take}
use Rattle.std.specs.List.{AllZip}
use Rattle.ira_event.specs.Log.{Log}
use Rattle.ira_pred.specs.Case.{Conjunct}
use Rattle.ira_pred.specs.Question.{QuestionCases}
use Rattle.ira_elim.specs.Found.{IsFound}
use Rattle.ira_elim.specs.LeastCut.{IsLeastCut}
use Rattle.ira_audit.specs.declared.findings.Findings.{Findings}
use Rattle.ira_audit.specs.declared.findings.Findings.TheVariants.{Refused, Cases}
use Rattle.ira_audit.specs.Never.{NoCutMeetsAny}

-- logs, and a question
pub record AskedQuestion : Type 0 where
  pub logs : List Log
  pub question : QuestionCases

-- the ring's size, and what is found for each case, in order
abbrev pub AreFoundOf : {A : Type 0} → AskedQuestion → Findings A → Type 0
AreFoundOf asked (Refused r) = ⊥
AreFoundOf asked (Cases nodes found) =
    (nodes ≡ length asked.logs) × AllZip (IsFound asked.logs) asked.question.cases found.items

-- case `number` is the first that a consistent cut of the logs meets, and this is the least cut that does
pub record IsFirstPresent (logs : List Log) (cases : List (List Conjunct)) (number : ℕ) (cut : List ℕ) : Type 0 where
  pub case : List Conjunct
  pub case_at : slice_get cases number ≡ Some case
  pub least : IsLeastCut logs case cut
  pub before : NoCutMeetsAny logs (take number cases)
