-- What is written of answers and findings, for a person or as JSON.
use Rattle.std.specs.Prelude.{◌≡◌, ℕ, Bool, List, [], ◌++◌, Option, Result, Ok, Err, codes, count_by, decimal, false, length, true}
use Rattle.ira_event.specs.Sink.{SinkState, StopsIn, Takes}
use Rattle.ira_audit.specs.FindingsText.{findings_text}
use Rattle.ira_audit.specs.Report.{report_line}
use Rattle.ira_audit.specs.declared.answer.Answer.{Answer}
use Rattle.ira_audit.specs.declared.findings.Findings.{Findings}
use Rattle.ira_view_page.specs.Printable.{IsPrintable}
use Rattle.ira_view_page.specs.declared.explanation.Explanation.{Explanation}
use Rattle.ira_view_page.specs.declared.show_fault.ShowFault.{ShowFault}
use Rattle.ira_view_page.specs.declared.show_fault.ShowFault.TheVariants.{OutOfMemory, WrongColumns, Write}
use Rattle.ira_view_election.specs.Election.{Standing}
use Rattle.ira_view_json.specs.AnswerValue.{answer_value, findings_values}
use Rattle.ira_view_json.specs.ExplainedFindings.{explained_findings}
use Rattle.ira_view_json.specs.ExplainedValue.{explained_value}
use Rattle.ira_view_json.specs.FolderValue.{sum_value}
use Rattle.ira_view_json.specs.Line.{AreLinesOf, IsLineOf}
use Rattle.ira_view_json.specs.declared.run_features.RunFeatures.{RunFeatures}
use Rattle.ira_view.specs.Status.{IsFindingsStatus, answer_status, status_number}
use Rattle.ira_view.specs.declared.form.Form.{Form}
use Rattle.ira_view.specs.declared.form.Form.TheVariants.{Json, Words}
use Rattle.ira_view.specs.declared.status.Status.{Status}

-- the text of an answer: as JSON with its status; or in words: its line
abbrev pub IsAnswerText : Form → Answer → List ℕ → Type 0
IsAnswerText Json answer text = IsLineOf (answer_value (status_number (answer_status answer)) answer) text
IsAnswerText Words answer text = text ≡ report_line answer

-- the text of an answer that is explained: as JSON with its status, with what it rests on, and with how the election stands
-- where that is known; or in words: its line, and after it the page, which is printable
abbrev pub IsViewText : {A : Type 0} → Form → Answer → Explanation A → Option Standing → List ℕ → Type 0
IsViewText Json answer explanation standing text =
    IsLineOf (explained_value (status_number (answer_status answer)) answer explanation standing) text
IsViewText Words answer explanation standing text =
    IsPrintable explanation.page × (text ≡ report_line answer ++ explanation.page)

-- the text of findings: as JSON with their status; or in words: their lines
abbrev pub IsFindingsText : {A : Type 0} → Form → Findings A → List ℕ → Type 0
IsFindingsText Json findings text =
    (status : Status) × IsFindingsStatus findings status
    × AreLinesOf (findings_values (status_number status) findings) text
IsFindingsText Words findings text = text ≡ findings_text findings

-- the text of findings that are explained: as JSON with their status and with what they rest on; or in words: their lines,
-- and after them the page, which is printable
abbrev pub IsFindingsViewText : {A : Type 0} → Form → Findings A → Explanation A → List ℕ → Type 0
IsFindingsViewText Json findings explanation text =
    (status : Status) × IsFindingsStatus findings status
    × AreLinesOf (explained_findings (status_number status) findings explanation) text
IsFindingsViewText Words findings explanation text =
    IsPrintable explanation.page × (text ≡ findings_text findings ++ explanation.page)

-- how many of the runs had what
abbrev pub sum_words : List RunFeatures → List ℕ
sum_words runs =
    codes "of " ++ decimal (length runs) ++ codes " runs: "
    ++ decimal (count_by (λ run. run.tie) runs) ++ codes " with a tie, "
    ++ decimal (count_by (λ run. run.second_round) runs) ++ codes " with a second round, "
    ++ decimal (count_by (λ run. run.second_term) runs) ++ codes " with a second term, "
    ++ decimal (count_by (λ run. run.wake_up) runs) ++ codes " with a wake-up, "
    ++ decimal (count_by (λ run. run.dropped) runs) ++ codes " with a dropped message\n"

-- that as JSON, or in words, where it is asked
abbrev pub IsSumText : Bool → Form → List RunFeatures → List ℕ → Type 0
IsSumText true Json runs text = IsLineOf (sum_value runs) text
IsSumText true Words runs text = text ≡ sum_words runs
IsSumText false form runs text = text ≡ []

-- the sink took such a text; a first part of one, where it failed; or nothing, where memory ran out
abbrev pub WroteText : {T : Type 0} → (List ℕ → Type 0) → Result T ShowFault → SinkState → SinkState → Type 0
WroteText IsText (Ok v) old new = (text : List ℕ) × IsText text × Takes text old new
WroteText IsText (Err Write) old new = (text : List ℕ) × IsText text × StopsIn text old new
WroteText IsText (Err OutOfMemory) old new = new ≡ old
WroteText IsText (Err WrongColumns) old new = ⊥
