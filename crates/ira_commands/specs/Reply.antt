-- What comes of a command.
use Rattle.std.specs.Prelude.{◌≡◌, ℕ, List, [], ◌∷◌, None, Option, Some, map}
use Rattle.ira_event.specs.Log.{Log}
use Rattle.ira_event.specs.LogText.{log_text}
use Rattle.ira_audit.specs.Report.{report_line}
use Rattle.ira_audit.specs.declared.answer.Answer.{Answer}
use Rattle.ira_view_election.specs.Election.{Standing}
use Rattle.ira_view_page.specs.declared.explanation.Explanation.{Explanation}
use Rattle.ira_view.specs.Status.{answer_status}
use Rattle.ira_view.specs.ViewText.{IsAnswerText, IsViewText}
use Rattle.ira_view.specs.declared.status.Status.{Status}
use Rattle.ira_view.specs.declared.status.Status.TheVariants.{Refused}
use Rattle.ira_view.specs.declared.form.Form.{Form}
use Rattle.ira_commands.specs.CommandFault.{command_fault_text}
use Rattle.ira_commands.specs.Output.{Printed}
use Rattle.ira_commands.specs.Output.Printed.{whole_text}
use Rattle.ira_commands.specs.declared.command_fault.CommandFault.{CommandFault}
use Rattle.ira_commands.specs.declared.files.Files.{Files}
use Rattle.ira_commands.specs.declared.files.Files.TheVariants as files

-- the files that are made: none; one, with this text; or one for each of the logs of a ring, with its text
pub data MadeFiles : Type 0 where
  no_files : MadeFiles
  one_text : List ℕ → MadeFiles
  logs_of : List Log → MadeFiles

-- a status; what is printed on standard output; why it is refused, if it is, which is printed on standard error; and the
-- files that are made
pub record Reply : Type 0 where
  pub status : Status
  pub out : Printed
  pub fault : Option CommandFault
  pub files : MadeFiles

-- this is printed on standard output, and nothing else
abbrev pub printing : Status → Printed → Reply
printing status out = record { status = status; out = out; fault = None; files = no_files }

-- this text
abbrev pub printed : Status → List ℕ → Reply
printed status text = printing status (whole_text text)

-- such a text is printed on standard output, and nothing else
abbrev pub Prints : (List ℕ → Type 0) → Status → Reply → Type 0
Prints IsText status reply = (text : List ℕ) × IsText text × (reply ≡ printed status text)

-- this text is printed on standard output, and then what is asked for is refused
abbrev pub refused_after : List ℕ → CommandFault → Reply
refused_after text fault = record { status = Refused; out = whole_text text; fault = Some fault; files = no_files }

-- what is asked for is refused, and nothing is printed
abbrev pub refused : CommandFault → Reply
refused = refused_after []

-- these files are made
abbrev pub with_files : Reply → MadeFiles → Reply
with_files reply files = record reply { files = files }

-- what a reply tells of an answer
abbrev pub Telling : Type 1
Telling = Answer → Reply → Type 0

-- its line is printed, with its status
abbrev pub Reports : Telling
Reports answer reply = reply ≡ printed (answer_status answer) (report_line answer)

-- it is printed as JSON, or its line is, with its status
abbrev pub ReportsAs : Form → Telling
ReportsAs form answer = Prints (IsAnswerText form answer) (answer_status answer)

-- it is printed with this explanation: as JSON, where that is wanted, with how the election stands where that is known,
-- or else its line and the page, which is printable
abbrev pub ExplainsAs : {A : Type 0} → Form → Explanation A → Option Standing → Telling
ExplainsAs form explanation standing answer =
    Prints (IsViewText form answer explanation standing) (answer_status answer)

-- the text of each file
abbrev pub file_texts : MadeFiles → List (List ℕ)
file_texts no_files = []
file_texts (one_text text) = text ∷ []
file_texts (logs_of logs) = map log_text logs

-- what is printed on standard error
abbrev pub fault_text : Option CommandFault → List ℕ
fault_text (Some fault) = command_fault_text fault
fault_text None = []

-- ---- Helpers, no definitions.

-- the files that a value of the program stands for
abbrev pub made : {A : Type 0} → Files A → MadeFiles
made files.Nothing = no_files
made (files.Text text) = one_text text.bytes
made (files.Page page) = one_text page
made (files.Logs logs) = logs_of logs
made (files.Run run) = logs_of run.logs

-- they aren't those of logs
abbrev pub AreNoLogs : MadeFiles → Type 0
AreNoLogs files = (logs : List Log) → files ≡ logs_of logs → ⊥

-- they aren't one text
abbrev pub IsNoText : MadeFiles → Type 0
IsNoText files = (text : List ℕ) → files ≡ one_text text → ⊥
