-- Several commands on the logs of a ring at once.
use Rattle.std.specs.Prelude.{◌≡◌, ℕ, List, [], ◌++◌, ◌∷◌, None, false, map, true}
use Rattle.std.specs.List.{AllZip}
use Rattle.ira_view_explain_question.specs.declared.asked_files.AskedFiles.{AskedFiles}
use Rattle.ira_view_page.specs.declared.named_text.NamedText.{NamedText}
use Rattle.ira_view_picture.specs.declared.column_range.ColumnRange.{ColumnRange}
use Rattle.ira_view.specs.Texts.{texts_of}
use Rattle.ira_view.specs.declared.form.Form.TheVariants.{Words}
use Rattle.ira_commands.specs.Answers.{Answers}
use Rattle.ira_commands.specs.Given.{Given, given_of}
use Rattle.ira_commands.specs.Reply.{Reply}
use Rattle.ira_commands.specs.declared.logs_command.LogsCommand.{LogsCommand}
use Rattle.ira_commands.specs.declared.logs_command.LogsCommand.TheVariants.{Answer, Check, Decide, Explain, ExplainCheck}
use Rattle.ira_commands.specs.declared.logs_command.LogsCommand.TheVariants.{ExplainQuestion, Show}
use Rattle.ira_commands.specs.declared.overview.Overview.{Overview}
use Rattle.ira_commands.specs.declared.overview.OverviewQuestion.{OverviewQuestion}
use Rattle.ira_commands.specs.declared.overview.OverviewQuestion.TheVariants.{Certified, Decided, NotAsked}
use Rattle.ira_commands.specs.declared.ring_form.RingForm.{RingForm}
use Rattle.ira_commands.specs.declared.ring_form.RingForm.TheVariants.{Lines, Picture}
use Rattle.ira_commands.specs.declared.ring_leaders.RingLeaders.TheVariants as leaders
use Rattle.ira_commands.specs.declared.ring_moment.RingMoment.{RingMoment}

-- what is found for a question, with its certificate, and why; and the answer of a certificate, and why
abbrev pub found_commands : List LogsCommand
found_commands = Decide Words false true ∷ ExplainQuestion Words None ∷ []

abbrev pub check_commands : List LogsCommand
check_commands = Check Words ∷ ExplainCheck Words ∷ []

-- what is told of a question
abbrev pub question_commands : OverviewQuestion → List LogsCommand
question_commands NotAsked = []
question_commands Decided = found_commands
question_commands Certified = found_commands ++ check_commands

-- what a ring looks like, whoever leads
abbrev pub page_form : RingForm
page_form = Lines (record { form = Words; has_events = false; leaders = leaders.NotAsked })

-- a picture of a ring, and what it looks like
abbrev pub ring_commands : ColumnRange → RingMoment → List LogsCommand
ring_commands columns moment = Show (Picture columns) moment ∷ Show page_form moment ∷ []

-- the answer of the logs, and why; what is told of the question; the ring
abbrev pub overview_commands : Overview → List LogsCommand
overview_commands overview = (Answer Words ∷ Explain Words ∷ [])
    ++ (question_commands overview.question ++ ring_commands overview.columns overview.moment)

-- each of the commands was done on what is given, and its reply comes of it
pub record AreAnswers (A : Type 0) (commands : List LogsCommand) (given : Given) (replies : List Reply) : Type 0 where
  pub each : AllZip (λ command. Answers A command given) commands replies

-- ---- Helpers, no definitions.

-- such replies were added
pub record AddsAnswers (A : Type 0) (commands : List LogsCommand) (given : Given) (old new : List Reply) : Type 0 where
  pub replies : List Reply
  pub answers : AreAnswers A commands given replies
  pub added : new ≡ old ++ replies

-- what files that are at hand come to
abbrev pub given_in : AskedFiles → NamedText → Given
given_in files certificate = given_of files.question.now certificate (map (λ file. file.name.now) files.logs.now)
    (texts_of files.logs.now)
