-- What comes of requests.
use Rattle.std.specs.Prelude.{◌≡◌, ◌<◌, ℕ, List, [], ◌∷◌, false, map, true}
use Rattle.std.specs.Borrow.{Bor}
use Rattle.ira_view_page.specs.declared.named_text.NamedText.{NamedText}
use Rattle.ira_view.specs.Status.{status_number}
use Rattle.ira_view.specs.Texts.{texts_of}
use Rattle.ira_view.specs.declared.form.Form.TheVariants.{Words}
use Rattle.ira_commands.specs.Answers.{Answers}
use Rattle.ira_commands.specs.Ask.{AsksSentence}
use Rattle.ira_commands.specs.Explain.{ExplainsLog}
use Rattle.ira_commands.specs.Given.{given_of}
use Rattle.ira_commands.specs.Judging.{JudgesLog}
use Rattle.ira_commands.specs.Mend.{MendsTexts}
use Rattle.ira_commands.specs.Overview.{AreAnswers, overview_commands}
use Rattle.ira_commands.specs.Pairs.{AsksPairs}
use Rattle.ira_commands.specs.Reply.{Reply, Reports, Telling}
use Rattle.ira_commands.specs.Run.{RunsRing}
use Rattle.ira_commands.specs.Upgrade.{UpgradesTexts}
use Rattle.ira_commands.specs.declared.logs_command.LogsCommand.{LogsCommand}
use Rattle.ira_commands.specs.declared.logs_command.LogsCommand.TheVariants.{Answer, Check, Decide, Explain, ExplainCheck}
use Rattle.ira_commands.specs.declared.logs_command.LogsCommand.TheVariants.{Expect, ExplainExpected, ExplainQuestion, Show}
use Rattle.ira_commands.specs.declared.overview.Overview.{Overview}
use Rattle.ira_commands.specs.declared.overview.OverviewQuestion.{OverviewQuestion}
use Rattle.ira_commands.specs.declared.overview.OverviewQuestion.TheVariants.{Certified, Decided, NotAsked}
use Rattle.ira_commands.specs.declared.ring_form.RingForm.TheVariants.{Picture}
use Rattle.ira_commands.specs.declared.ring_moment.RingMoment.TheVariants.{AtCut, AtEnd, OfQuestion}
use Rattle.ira_lent.specs.declared.lent.Lent.{Lent}
use Rattle.ira_web.specs.Files.{AreFiles}
use Rattle.ira_web.specs.Request.{HasValues}
use Rattle.ira_web.specs.Told.{HasNoRoom, IsTold, TellsReplies, ToldReplies}
use Rattle.ira_web.specs.declared.request.Request.{Request}
use Rattle.ira_web.specs.declared.request.Request.TheVariants.{AllOf, Ask, ExplainLog, Mend, OfLogs, OneLog, Pairs, Run, Upgrade}

-- the only file is that of a log, of which this is told
abbrev pub OfOneFile : (NamedText → Telling) → List NamedText → Reply → Type 0
OfOneFile Tells files reply = (log : NamedText) × (files ≡ log ∷ []) × JudgesLog (Tells log) log.text.now reply

-- the files are that of the question, where the command has one, that of the certificate, where it has one, and those of the
-- logs
abbrev pub AreCommandFiles : LogsCommand → List NamedText → NamedText → NamedText → List NamedText → Type 0
AreCommandFiles (Answer form) files question certificate logs = files ≡ logs
AreCommandFiles (Expect form expected) files question certificate logs = files ≡ logs
AreCommandFiles (Explain form) files question certificate logs = files ≡ logs
AreCommandFiles (ExplainExpected form expected) files question certificate logs = files ≡ logs
AreCommandFiles (Decide form is_brief certify) files question certificate logs = files ≡ question ∷ logs
AreCommandFiles (ExplainQuestion form case) files question certificate logs = files ≡ question ∷ logs
AreCommandFiles (Check form) files question certificate logs = files ≡ question ∷ certificate ∷ logs
AreCommandFiles (ExplainCheck form) files question certificate logs = files ≡ question ∷ certificate ∷ logs
AreCommandFiles (Show form AtEnd) files question certificate logs = files ≡ logs
AreCommandFiles (Show form (AtCut events)) files question certificate logs = files ≡ logs
AreCommandFiles (Show form (OfQuestion case)) files question certificate logs = files ≡ question ∷ logs

-- this comes of a command on these files
abbrev pub AnswersFiles : Type 0 → LogsCommand → List NamedText → Reply → Type 0
AnswersFiles A command files reply = (question : NamedText) × (certificate : NamedText) × (logs : List NamedText)
    × AreCommandFiles command files question certificate logs
    × Answers A command (given_of question certificate (map (λ file. file.name.now) logs) (texts_of logs)) reply

-- the command of an overview that has each of its files
abbrev pub widest_command : OverviewQuestion → Overview → LogsCommand
widest_command NotAsked overview = Show (Picture overview.columns) overview.moment
widest_command Decided overview = Decide Words false true
widest_command Certified overview = Check Words

-- these come of the commands of an overview on these files
abbrev pub AnswersAll : Type 0 → Overview → List NamedText → List Reply → Type 0
AnswersAll A overview files replies = (question : NamedText) × (certificate : NamedText) × (logs : List NamedText)
    × AreCommandFiles (widest_command overview.question overview) files question certificate logs
    × AreAnswers A (overview_commands overview)
    (given_of question certificate (map (λ file. file.name.now) logs) (texts_of logs)) replies

-- one reply comes of it, and it is such a one
abbrev pub Only : (Reply → Type 0) → List Reply → Type 0
Only IsReply replies = (reply : Reply) × IsReply reply × (replies ≡ reply ∷ [])

-- what comes of a request with these files; the type is that of what gives memory
abbrev pub ServesRequest : Type 0 → Request → List NamedText → List Reply → Type 0
ServesRequest A OneLog files = Only (OfOneFile (λ log. Reports) files)
ServesRequest A (ExplainLog form) files = Only (OfOneFile (ExplainsLog A form) files)
ServesRequest A (OfLogs command) files = Only (AnswersFiles A command files)
ServesRequest A (AllOf overview) files = AnswersAll A overview files
ServesRequest A (Pairs nodes) files = Only (λ reply. (files ≡ []) × AsksPairs nodes reply)
ServesRequest A (Ask nodes) files =
    Only (λ reply. (sentence : NamedText) × (files ≡ sentence ∷ []) × AsksSentence nodes sentence.text.now reply)
ServesRequest A Upgrade files = Only (UpgradesTexts (texts_of files))
ServesRequest A (Mend is_initiator) files = Only (MendsTexts is_initiator (texts_of files))
ServesRequest A (Run asked) files = Only (λ reply. (files ≡ []) × RunsRing true asked reply)

-- the values are those of a request, lengths and bytes those of its files, and these come of it
pub record IsAnswered (values lengths bytes : List ℕ) (replies : List Reply) : Type 0 where
  pub request : Request
  pub files : List NamedText
  pub asked : HasValues request values
  pub given : AreFiles lengths bytes files
  pub serves : ServesRequest (Bor Lent) request files replies

-- and this is told of them
abbrev pub IsAnsweredAs : List ℕ → List ℕ → List ℕ → ToldReplies → Type 0
IsAnsweredAs values lengths bytes told =
    (replies : List Reply) × IsAnswered values lengths bytes replies × TellsReplies replies told

-- a number below 3 is the status of what comes of the request, the parts of which are in out and sizes; 5 says that these have no
-- room for the parts
abbrev pub MayBeServed : List ℕ → List ℕ → List ℕ → List ℕ → List ℕ → ℕ → Type 0
MayBeServed values lengths bytes out sizes number =
    (number < 3 → (told : ToldReplies) × IsAnsweredAs values lengths bytes told × IsTold told.parts out sizes
    × (status_number told.status ≡ number))
    × (number ≡ 5 → (told : ToldReplies) × IsAnsweredAs values lengths bytes told × HasNoRoom told.parts out sizes)
