-- What comes of explaining an answer.
use Rattle.std.specs.Prelude.{◌≡◌, ◌⊎◌, ◌++◌, ℕ, List, [], None, Option, codes, true}
use Rattle.ira_event.specs.Sink.{Memory}
use Rattle.ira_mend.specs.RecordedLogs.{IsRecordedReason}
use Rattle.ira_audit.specs.Judged.{IsJudged}
use Rattle.ira_audit.specs.Report.{report_line}
use Rattle.ira_audit.specs.RingAnswer.{IsRingAnswer}
use Rattle.ira_audit.specs.TextRuns.{AreTextsOfRuns}
use Rattle.ira_audit.specs.declared.answer.Answer.{Answer}
use Rattle.ira_audit.specs.declared.answer.Answer.TheVariants.{No, Yes}
use Rattle.ira_audit.specs.declared.reason.Reason.{Reason}
use Rattle.ira_audit.specs.declared.reason.Reason.TheVariants as reason
use Rattle.ira_audit.specs.declared.judged.Judged.{Judged}
use Rattle.ira_view_election.specs.Election.{Standing}
use Rattle.ira_view_page.specs.declared.explanation.Explanation.{Explanation}
use Rattle.ira_view_page.specs.declared.named_text.NamedText.{NamedText}
use Rattle.ira_view_explain_question.specs.declared.asked_files.AskedFiles.{AskedFiles}
use Rattle.ira_view.specs.Explained.{IsCheckExplanation, IsExplanation, IsLogExplanation}
use Rattle.ira_view.specs.Status.{answer_status}
use Rattle.ira_view.specs.Texts.{texts_of}
use Rattle.ira_view.specs.declared.form.Form.{Form}
use Rattle.ira_view.specs.declared.form.Form.TheVariants.{Words}
use Rattle.ira_commands.specs.Begun.{AreBegunFiles, SaysBreaksOff}
use Rattle.ira_commands.specs.Reply.{ExplainsAs, Reply, Telling, printed}

-- the answer of one log alone, in this file, is explained
abbrev pub ExplainsLog : Type 0 → Form → NamedText → Telling
ExplainsLog A form file answer reply =
    (explanation : Explanation A) × IsLogExplanation file answer explanation
    × ExplainsAs form explanation None answer reply

-- the texts of logs in files are judged, and the answer is explained, with how the election stands
abbrev pub ExplainsLogs : Type 0 → Form → List NamedText → Telling
ExplainsLogs A form logs answer reply =
    (explanation : Explanation A) × (standing : Option Standing) × (judged : Judged A) × IsJudged (texts_of logs) judged
    × IsExplanation logs judged explanation standing × ExplainsAs form explanation standing answer reply

-- this text explains the answer of the logs of a ring in these files, which after a yes are texts of runs
pub record ExplainsTexts (A : Type 0) (form : Form) (files : List NamedText) (answer : Answer) (text : List ℕ)
    : Type 0 where
  pub judged : IsRingAnswer (texts_of files) answer
  pub runs : answer ≡ Yes → AreTextsOfRuns (texts_of files)
  pub told : ExplainsLogs A form files answer (printed (answer_status answer) text)

-- what stands above what is said of what is left of logs
abbrev pub begun_heading : List ℕ
begun_heading = codes "\nWhat is left, as far as it fits together:\n\n"

-- the reason is of the text that the answer names
abbrev pub IsOfSameText : Reason → Answer → Type 0
IsOfSameText (reason.Log number fault) (No (reason.Log named other)) = number ≡ named
IsOfSameText r answer = ⊥

-- this text says for what reason files aren't what is left of the logs of one ring; nothing where it is of the text that
-- this answer names
abbrev pub TellsNoRing : Reason → Answer → List ℕ → Type 0
TellsNoRing r first text = (¬ (IsOfSameText r first) × (text ≡ begun_heading ++ report_line (No r)))
    ⊎ (IsOfSameText r first × (text ≡ []))

-- this text explains the greatest consistent beginning of what is left of the logs in these files, which had this answer, or
-- says why they aren't what is left of the logs of one ring
pub data ExplainsBegun (A : Type 0) (files : List NamedText) (first : Answer) (text : List ℕ) : Type 0 where
  begun : (others : List NamedText) (answer : Answer) (more : List ℕ) → AreBegunFiles files others
      → ExplainsTexts A Words others answer more → text ≡ begun_heading ++ more → ExplainsBegun A files first text
  no_ring : (r : Reason) → IsRecordedReason true (texts_of files) r → TellsNoRing r first text
      → ExplainsBegun A files first text

-- in words more is said of texts that break off, or begin with no head
abbrev pub GoesOn : Form → Answer → Type 0
GoesOn form answer = (form ≡ Words) × SaysBreaksOff answer

-- the answer of the logs of a ring in these files is explained, and so is what is left of them where more is said
pub data ExplainsAll (A : Type 0) (form : Form) (files : List NamedText) (reply : Reply) : Type 0 where
  alone : (answer : Answer) (text : List ℕ) → ExplainsTexts A form files answer text → ¬ (GoesOn form answer)
      → reply ≡ printed (answer_status answer) text → ExplainsAll A form files reply
  goes_on : (answer : Answer) (text more : List ℕ) → ExplainsTexts A form files answer text → GoesOn form answer
      → ExplainsBegun A files answer more → reply ≡ printed (answer_status answer) (text ++ more) → ExplainsAll A form files reply

-- the answer of logs, of a question and of a certificate, in these files, is explained
abbrev pub ExplainsCheck : Type 0 → Form → AskedFiles → NamedText → Telling
ExplainsCheck A form files certificate answer reply =
    (explanation : Explanation A) × (judged : Judged A) × IsJudged (texts_of files.logs.now) judged
    × IsCheckExplanation files certificate judged answer explanation × ExplainsAs form explanation None answer reply

-- ---- Helpers, no definitions.

-- such a text was added to what a sink in memory took
abbrev pub AddsText : (List ℕ → Type 0) → Memory → Memory → Type 0
AddsText IsText old new = (text : List ℕ) × IsText text × (new.bytes ≡ old.bytes ++ text)
