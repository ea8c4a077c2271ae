-- What comes of explaining an answer where something is expected of the election when the logs end.
use Rattle.std.specs.Prelude.{◌≡◌, ◌++◌, ℕ, List, Option}
use Rattle.ira_event.specs.Log.{Log}
use Rattle.ira_audit.specs.GoodLogs.{AreGoodLogs}
use Rattle.ira_audit.specs.Refusal.{IsLogsReason}
use Rattle.ira_audit.specs.Report.{report_line}
use Rattle.ira_audit.specs.TextRuns.{AreTextsOfRuns}
use Rattle.ira_audit.specs.declared.answer.Answer.TheVariants.{Yes}
use Rattle.ira_audit.specs.declared.judged.Judged.TheVariants.{Good}
use Rattle.ira_audit.specs.declared.reason.Reason.{Reason}
use Rattle.ira_view_election.specs.Election.{Standing}
use Rattle.ira_view_page.specs.declared.explanation.Explanation.{Explanation}
use Rattle.ira_view_page.specs.declared.named_text.NamedText.{NamedText}
use Rattle.ira_view_page.specs.Printable.{IsPrintable}
use Rattle.ira_view.specs.Explained.{IsExplanation}
use Rattle.ira_view.specs.Status.{IsLeadsStatus}
use Rattle.ira_view.specs.Texts.{texts_of}
use Rattle.ira_view.specs.declared.form.Form.{Form}
use Rattle.ira_view.specs.declared.form.Form.TheVariants.{Json, Words}
use Rattle.ira_view.specs.declared.status.Status.{Status}
use Rattle.ira_commands.specs.Expected.{AreLinesOn, TellsExpected}
use Rattle.ira_commands.specs.Explain.{ExplainsAll}
use Rattle.ira_commands.specs.Reply.{Prints, Reply, refused}
use Rattle.ira_commands.specs.RingLeaders.{AreNoPlaces, AreReasonsOf}
use Rattle.ira_commands.specs.declared.command_fault.CommandFault.TheVariants.{NoPlace}
use Rattle.ira_commands.specs.declared.expected.Expected.{Expected}
use Rattle.ira_commands.specs.declared.ring_leaders.RingLeaders.{RingLeaders}

-- the page below a yes has these lines on who leads, why that is so, and what explains the yes
pub record IsExpectedPage (A : Type 0) (leaders : RingLeaders) (files : List NamedText) (logs : List Log)
    (lines page : List ℕ) : Type 0 where
  pub why : List ℕ
  pub why_is : AreReasonsOf files logs leaders why
  pub explanation : Explanation A
  pub standing : Option Standing
  pub explained : IsExplanation files (Good logs) explanation standing
  pub page_is : page ≡ lines ++ why ++ explanation.page

-- the text is the line of a yes, and such a page, which is printable
abbrev pub IsExplainedText : Type 0 → RingLeaders → List NamedText → List Log → List ℕ → List ℕ → Type 0
IsExplainedText A leaders files logs lines text =
    (page : List ℕ) × IsExpectedPage A leaders files logs lines page × IsPrintable page
    × (text ≡ report_line Yes ++ page)

-- a yes is told of good logs in these files, and the status says whether all is as expected; or one of those who are to
-- lead is none of the ring, which is refused
pub data TellsExplained (A : Type 0) (expected : Expected) (files : List NamedText) (logs : List Log) (reply : Reply)
    : Type 0 where
  told : (over differences : List ℕ) (status : Status) → AreLinesOn logs expected over differences
      → IsLeadsStatus (over ++ differences) status
      → Prints (IsExplainedText A expected.leaders files logs differences) status reply
      → TellsExplained A expected files logs reply
  no_place : AreNoPlaces logs expected.leaders → reply ≡ refused NoPlace → TellsExplained A expected files logs reply

-- as JSON it is told as without an explanation
abbrev pub TellsExplainedAs : Type 0 → Form → Expected → List NamedText → List Log → Reply → Type 0
TellsExplainedAs A Words expected files logs = TellsExplained A expected files logs
TellsExplainedAs A Json expected files logs = TellsExpected Json expected logs

-- that is told of good logs, whose texts are those of runs; the answer of others is explained as ever
pub data ExplainsExpected (A : Type 0) (form : Form) (expected : Expected) (files : List NamedText) (reply : Reply)
    : Type 0 where
  good : (logs : List Log) → AreGoodLogs (texts_of files) logs → AreTextsOfRuns (texts_of files)
      → TellsExplainedAs A form expected files logs reply → ExplainsExpected A form expected files reply
  no : (reason : Reason) → IsLogsReason (texts_of files) reason → ExplainsAll A form files reply
      → ExplainsExpected A form expected files reply
