-- What a text shows that is no question's.
use Rattle.std.specs.Prelude.{◌≡◌, ◌≢◌, ◌⊎◌, ◌<◌, ◌≤◌, ◌+◌, ℕ, List, ◌++◌, codes, length}
use Rattle.ira_event.specs.Numeral.{IsNumeral}
use Rattle.ira_pred.specs.Limits.{MAX_CASES}
use Rattle.ira_pred.specs.declared.ask_fault.AskFault.{AskFault}
use Rattle.ira_pred.specs.declared.ask_fault.AskFault.TheVariants as fault
use Rattle.ira_pred.specs.QuestionText.{IsPlaced}
use Rattle.ira_view_page.specs.Lines.{IsLine}
use Rattle.ira_view_page.specs.Beside.{due, note}
use Rattle.ira_view_page.specs.TextStop.{IsCutStop, IsWholeLine, stop_at}
use Rattle.ira_view_page.specs.declared.text_stop.TextStop.{TextStop}
use Rattle.ira_view_page.specs.declared.text_stop.TextStop.TheVariants.{TooLong}
use Rattle.ira_view_explain_question.specs.declared.clause_stop.DueInClause.{DueInClause}
use Rattle.ira_view_explain_question.specs.declared.clause_stop.DueInClause.TheVariants as part
use Rattle.ira_view_explain_question.specs.AskedFinding.{IsHeadStop, IsTrailingStop, last_line}
use Rattle.ira_view_explain_question.specs.SaidLines.{IsNthLine}

-- what is due at a place of a clause
abbrev pub due_text : DueInClause → List ℕ
due_text part.Clause =
    codes "`true`, `leader`, `active`, `passive`, `choosing`, `yielding`, `owes`, `round`, `id`, `term` or `(`"
due_text part.Relation = codes "`<`, `=` or `>`"
due_text part.Space = codes "one space"
due_text part.Number = codes "a number from 0 to 1,000,000"
due_text part.Joint = codes "` and ` or ` or `"
due_text part.Bracket = codes "`)`"
due_text part.End = codes "the end of the line"

-- a line shows it at a byte, where this is due of the clause that it asks
abbrev pub IsClauseStop : List ℕ → ℕ → TextStop → Type 0
IsClauseStop line number stop =
    (byte : ℕ) × (d : DueInClause) × (byte ≤ length line) × (stop ≡ stop_at number byte byte (due (due_text d)))

-- a line where a case begins or ends or asks a clause shows it in the clause, or as a whole where it has no place
abbrev pub IsCaseLineStop : List ℕ → ℕ → TextStop → Type 0
IsCaseLineStop text number stop =
    (line : List ℕ) × IsLine text number line
    × ((((place : ℕ) (clause : List ℕ) → ¬ (IsPlaced line place clause))
    × IsWholeLine text number (due (codes "`case`, `end` or `PLACE: CLAUSE`")) stop)
    ⊎ ((place : ℕ) × (clause : List ℕ) × IsPlaced line place clause × IsClauseStop line number stop))

-- a line that may not stand there shows it: the third, where the first case is due, as a whole
abbrev pub IsLineStop : List ℕ → ℕ → TextStop → Type 0
IsLineStop text number stop =
    ((number ≤ 3) × IsWholeLine text number (due (codes "`case`")) stop) ⊎ ((3 < number) × IsCaseLineStop text number stop)

-- a line whose place may not stand there shows it in the digits of that place
abbrev pub IsPlaceStop : List ℕ → ℕ → TextStop → Type 0
IsPlaceStop text number stop =
    (line : List ℕ) × (to : ℕ) × (1 ≤ number → IsLine text number line)
    × (stop ≡ stop_at number 0 to (note (codes "places are below N, and rise within a case")))
    × ((place : ℕ) (digits clause : List ℕ) → line ≡ digits ++ codes ": " ++ clause → IsNumeral digits place
    → to ≡ length digits)

-- a line whose clause is nested too deep shows it at a byte
abbrev pub IsDepthStop : List ℕ → ℕ → TextStop → Type 0
IsDepthStop text number stop =
    (line : List ℕ) × (byte : ℕ) × (1 ≤ number → IsLine text number line) × (byte ≤ length line)
    × (stop ≡ stop_at number byte byte (note (codes "the 33rd bracket that is open")))

-- a text without a case shows it in its third line, one with too many in the line that begins the first of these
abbrev pub IsCasesStop : List ℕ → TextStop → Type 0
IsCasesStop text stop =
    (IsLine text 3 (codes "end")
    × IsWholeLine text 3 (note (codes "a `case` is due here: a question has 1 to 32,385")) stop)
    ⊎ ((line : List ℕ) × IsLine text 3 line × (line ≢ codes "end") × (number : ℕ)
    × IsNthLine text (codes "case") (MAX_CASES + 1) number
    × IsWholeLine text number (note (codes "case 32,386: a question has at most 32,385")) stop)

-- where a text with this fault shows it
abbrev pub IsQuestionStop : List ℕ → AskFault → TextStop → Type 0
IsQuestionStop text fault.TooLong stop = stop ≡ TooLong
IsQuestionStop text fault.Head stop = IsHeadStop text (codes "irask 1") (due (codes "`irask 1`")) stop
IsQuestionStop text (fault.Line number) stop = IsLineStop text number stop
IsQuestionStop text (fault.Place number) stop = IsPlaceStop text number stop
IsQuestionStop text (fault.Depth number) stop = IsDepthStop text number stop
IsQuestionStop text (fault.Empty number) stop =
    IsWholeLine text number (note (codes "the case in front of this line has no clause")) stop
IsQuestionStop text fault.Cases stop = IsCasesStop text stop
IsQuestionStop text fault.Cut stop = IsCutStop text last_line stop
IsQuestionStop text fault.Trailing stop = IsTrailingStop text stop
IsQuestionStop text fault.OutOfMemory stop = ⊥
