-- What the program does.
use Rattle.std.specs.Prelude.{◌≡◌, ◌≢◌, ◌⊎◌, ℕ, ◌+◌, Bool, false, not, true, Err, List, [], None, Option, Some, codes}
use Rattle.std.specs.Borrow.{Bor}
use Rattle.std.specs.Option.{is_some}
use Rattle.ira_event.specs.Limits.{MAX_TEXT}
use Rattle.ira_event.specs.Sink.{SinkState}
use Rattle.ira_view.specs.Form.{json_form}
use Rattle.ira_view.specs.declared.form.Form.{Form}
use Rattle.ira_commands.specs.Answers.{Answers}
use Rattle.ira_commands.specs.Judging.{JudgesLog}
use Rattle.ira_commands.specs.Pairs.{AsksPairs}
use Rattle.ira_commands.specs.Reply.{Reply, Reports}
use Rattle.ira_commands.specs.Run.{RunsRing}
use Rattle.ira_commands.specs.Upgrade.{UpgradesTexts}
use Rattle.ira_commands.specs.declared.logs_command.LogsCommand.{LogsCommand}
use Rattle.ira_commands.specs.declared.logs_command.LogsCommand.TheVariants.{Check, Decide, ExplainCheck, ExplainQuestion}
use Rattle.ira_main_cli.specs.Request.{IsCheckLine, IsDecideLine, IsDrawLine, IsEachLine, IsExplainLine, IsGuideLine, IsLogsLine}
use Rattle.ira_main_cli.specs.Request.{IsAskLine, IsMendLine, IsPairsLine, IsRunLine, IsShowLine, IsUpgradeLine, IsVersionLine, MayBeRefused}
use Rattle.ira_main_cli.specs.declared.check_request.CheckRequest.{CheckRequest}
use Rattle.ira_main_cli.specs.declared.decide_request.DecideRequest.{DecideRequest}
use Rattle.ira_main_cli.specs.declared.draw_request.DrawRequest.{DrawRequest}
use Rattle.ira_main_cli.specs.declared.each_request.EachRequest.{EachRequest}
use Rattle.ira_main_cli.specs.declared.expectation.Expectation.{Expectation}
use Rattle.ira_main_cli.specs.declared.explain_request.ExplainRequest.{ExplainRequest}
use Rattle.ira_main_cli.specs.declared.explained_answer.ExplainedAnswer.{ExplainedAnswer}
use Rattle.ira_main_cli.specs.declared.explained_answer.ExplainedAnswer.TheVariants.{OneLog, Logs, Findings, Certificate}
use Rattle.ira_main_cli.specs.declared.folder_detail.FolderDetail.{FolderDetail}
use Rattle.ira_main_cli.specs.declared.folder_detail.FolderDetail.TheVariants.{Line, Reasons}
use Rattle.ira_main_cli.specs.declared.guide_topic.GuideTopic.{GuideTopic}
use Rattle.ira_main_cli.specs.declared.log_source.LogSource.{LogSource}
use Rattle.ira_main_cli.specs.declared.logs_request.LogsRequest.{LogsRequest}
use Rattle.ira_main_cli.specs.declared.mend_request.MendRequest.{MendRequest}
use Rattle.ira_main_cli.specs.declared.question_source.QuestionSource.{QuestionSource}
use Rattle.ira_main_cli.specs.declared.question_source.QuestionSource.TheVariants.{File, Sentence}
use Rattle.ira_main_cli.specs.declared.rewrite_request.RewriteRequest.{RewriteRequest}
use Rattle.ira_main_cli.specs.declared.ask_request.AskRequest.{AskRequest}
use Rattle.ira_main_cli.specs.declared.run_request.RunRequest.{RunRequest}
use Rattle.ira_main_cli.specs.declared.show_request.ShowRequest.{ShowRequest}
use Rattle.ira_main_cli.specs.declared.words_fault.WordsFault.{WordsFault}
use Rattle.ira_main_files.specs.CountingReader.{Reads}
use Rattle.ira_main_files.specs.ReadText.{IsReadTo}
use Rattle.ira_main_files.specs.Shelf.{Reading, Writing}
use Rattle.ira_main.specs.Ask.{AsksOf, IsUnasked}
use Rattle.ira_main.specs.AskedRun.{run_of}
use Rattle.ira_main.specs.Delivery.{Tells, TellsAndKeeps, TellsAndRecords}
use Rattle.ira_main.specs.Draw.{DrawsFiles, IsUndrawn}
use Rattle.ira_main.specs.Each.{JudgesEach}
use Rattle.ira_main.specs.Explain.{ExplainsInput}
use Rattle.ira_main.specs.Given.{HasNoFault, IsUnread, OfFiles}
use Rattle.ira_main.specs.Guide.{guide_text}
use Rattle.ira_main.specs.Mend.{IsUnmended, MendsLogs}
use Rattle.ira_main.specs.Outcome.{Outcome, PrintsLine}
use Rattle.ira_main.specs.ProgramFault.{words_fault}
use Rattle.ira_main.specs.Judge.{IsUnjudged, JudgesFiles}
use Rattle.ira_main.specs.Show.{IsUnshown, ShowsFiles}
use Rattle.ira_main.specs.SourceNames.{AreSeveralFolders, IsOfOneRing}
use Rattle.ira_main.specs.Version.{version_line}
use Rattle.ira_main.specs.declared.file_fault.FileFault.{FileFault}
use Rattle.ira_main.specs.declared.file_fault.FileFault.TheVariants.{Unread}
use Rattle.ira_view.specs.declared.status.Status.TheVariants.{Yes}

-- the input had this text left, and such a reply comes of it
abbrev pub OfInput : (List ℕ → Reply → Type 0) → Reads → Reads → Reply → Type 0
OfInput IsReply old new reply = (text : List ℕ) × IsReadTo (MAX_TEXT + 1) old new text × IsReply text reply

-- why none comes of it: a read failed
abbrev pub IsInputFault : {A : Type 0} → Reads → FileFault A → Type 0
IsInputFault new fault = (new.has_failed ≡ true) × (new.is_over ≡ true) × (fault ≡ Unread (codes "-"))

-- what comes of a command on files that are read is told
abbrev pub TellsOfLogs : (A : Type 0) → {S : Type 0} → Reading S → Option QuestionSource → Option (Bor (List ℕ)) → LogSource → S
    → SinkState → SinkState → Outcome A → LogsCommand → Type 0
TellsOfLogs A reads question certificate source shelf out out' outcome command =
    Tells (OfFiles reads None question certificate source shelf (Answers A command))
    (IsUnread reads None question certificate source shelf) out out' outcome

-- logs were judged, of whose election this is expected, or those of each of some folders, which may stand in place of
-- files
abbrev pub AnswersLogs : (A : Type 0) → {S : Type 0} → Reading S → FolderDetail → Form → Expectation → LogSource → S → SinkState
    → SinkState → Outcome A → Type 0
AnswersLogs A reads detail form expected source shelf out out' outcome =
    (IsOfOneRing reads shelf source
    × Tells (JudgesFiles A reads detail form expected source shelf) (IsUnjudged reads expected source shelf) out out'
    outcome)
    ⊎ ((folders : List (Bor (List ℕ))) × AreSeveralFolders reads shelf source folders
    × JudgesEach A reads form expected detail false folders shelf out out' outcome)

-- the answer that is asked for was explained; that of one log is none of these, since it comes of the input
abbrev pub ExplainsAnswer : (A : Type 0) → Form → {S : Type 0} → Reading S → ExplainedAnswer → S → SinkState → SinkState
    → Outcome A → Type 0
ExplainsAnswer A form reads OneLog shelf out out' outcome = ⊥
ExplainsAnswer A form reads (Logs expected source) shelf out out' outcome =
    AnswersLogs A reads Reasons form expected source shelf out out' outcome
ExplainsAnswer A form reads (Findings asked source) shelf out out' outcome =
    TellsOfLogs A reads (Some asked.question) None source shelf out out' outcome (ExplainQuestion form asked.case)
ExplainsAnswer A form reads (Certificate question certificate source) shelf out out' outcome =
    TellsOfLogs A reads (Some question) (Some certificate) source shelf out out' outcome (ExplainCheck form)

-- whether it is told in one line what was found: for a sentence, where no JSON is wanted
abbrev pub is_brief : QuestionSource → Bool → Bool
is_brief (File name) is_json = false
is_brief (Sentence sentence) is_json = not is_json

-- what is done for words: they are refused; or they ask for logs, or for the evidence of an answer, and their texts are
-- judged together, or those of each of some folders, which may stand in place of files; or to show logs, and what happened
-- by them is printed; or to draw them, and a picture is kept; or to check logs, and their texts are judged with those of a
-- question and of a certificate; or to decide a question of them, and it is decided of their texts; or for the question of
-- all pairs, or of a sentence, and it is printed; or for a ring, and it is run; or to upgrade logs, or to mend them, and it is
-- done; or for a guide or the version, and it is printed. Or no answer is given, for a fault that the command can have. The
-- shelf is as it was but for the files of a run, of upgraded or mended logs, of a certificate and of a picture
pub data CommandOutcome (A : Type 0) {S : Type 0} (reads : Reading S) (writes : Writing S)
    (words : List (List ℕ)) (shelf shelf' : S) (out out' : SinkState)
    (outcome : Outcome A) : Type 0 where
  refused : (fault : WordsFault) → MayBeRefused words fault → shelf' ≡ shelf → out' ≡ out
      → outcome ≡ Err (words_fault fault)
      → CommandOutcome A reads writes words shelf shelf' out out' outcome
  judged : (logs : LogsRequest) → IsLogsLine words logs → shelf' ≡ shelf
      → AnswersLogs A reads Line (json_form logs.is_json) logs.expected logs.logs shelf out out' outcome
      → CommandOutcome A reads writes words shelf shelf' out out' outcome
  each : (asked : EachRequest) → IsEachLine words asked → shelf' ≡ shelf
      → JudgesEach A reads (json_form asked.is_json) asked.expected asked.detail asked.is_summed asked.folders.items shelf out
      out' outcome
      → CommandOutcome A reads writes words shelf shelf' out out' outcome
  explained : (explain : ExplainRequest) → IsExplainLine words explain → shelf' ≡ shelf
      → ExplainsAnswer A (json_form explain.is_json) reads explain.answer shelf out out' outcome
      → CommandOutcome A reads writes words shelf shelf' out out' outcome
  shown : (show : ShowRequest) → IsShowLine words show → shelf' ≡ shelf
      → Tells (ShowsFiles A reads show shelf) (IsUnshown reads show shelf) out out' outcome
      → CommandOutcome A reads writes words shelf shelf' out out' outcome
  drawn : (draw : DrawRequest) → IsDrawLine words draw
      → TellsAndKeeps writes (Some draw.picture) (DrawsFiles A reads draw shelf) (IsUndrawn reads draw shelf)
      shelf shelf' out out' outcome
      → CommandOutcome A reads writes words shelf shelf' out out' outcome
  certified : (check : CheckRequest) → IsCheckLine words check → shelf' ≡ shelf
      → TellsOfLogs A reads (Some (File check.question)) (Some check.certificate) check.logs shelf out out' outcome
      (Check (json_form check.is_json))
      → CommandOutcome A reads writes words shelf shelf' out out' outcome
  decided : (decide : DecideRequest) → IsDecideLine words decide
      → TellsAndKeeps writes decide.certificate
      (OfFiles reads decide.certificate (Some decide.question) None decide.logs shelf
      (Answers A (Decide (json_form decide.is_json) (is_brief decide.question decide.is_json) (is_some decide.certificate))))
      (IsUnread reads decide.certificate (Some decide.question) None decide.logs shelf)
      shelf shelf' out out' outcome
      → CommandOutcome A reads writes words shelf shelf' out out' outcome
  pairs : (nodes : ℕ) → IsPairsLine words nodes → shelf' ≡ shelf → Tells (AsksPairs nodes) HasNoFault out out' outcome
      → CommandOutcome A reads writes words shelf shelf' out out' outcome
  asked : (ask : AskRequest) → IsAskLine words ask → shelf' ≡ shelf
      → Tells (AsksOf reads ask shelf) (IsUnasked reads ask.size shelf) out out' outcome
      → CommandOutcome A reads writes words shelf shelf' out out' outcome
  recorded : (request : RunRequest) → IsRunLine words request
      → TellsAndRecords writes request.folder (RunsRing request.is_alone (run_of request)) HasNoFault
      shelf shelf' out out' outcome
      → CommandOutcome A reads writes words shelf shelf' out out' outcome
  upgraded : (upgrade : RewriteRequest) → IsUpgradeLine words upgrade
      → TellsAndRecords writes upgrade.folder
      (OfFiles reads None None None upgrade.logs shelf (λ given. UpgradesTexts given.texts))
      (IsUnread reads None None None upgrade.logs shelf) shelf shelf' out out' outcome
      → CommandOutcome A reads writes words shelf shelf' out out' outcome
  mended : (mend : MendRequest) → IsMendLine words mend
      → TellsAndRecords writes mend.folder (MendsLogs reads mend shelf) (IsUnmended reads mend shelf)
      shelf shelf' out out' outcome
      → CommandOutcome A reads writes words shelf shelf' out out' outcome
  guided : (topic : GuideTopic) → IsGuideLine words topic → shelf' ≡ shelf
      → PrintsLine (guide_text topic) Yes out out' outcome
      → CommandOutcome A reads writes words shelf shelf' out out' outcome
  versioned : IsVersionLine words → shelf' ≡ shelf → PrintsLine version_line Yes out out' outcome
      → CommandOutcome A reads writes words shelf shelf' out out' outcome

-- without words the input is judged, and the shelf is as it was, and so it is where they ask for the evidence of one
-- log; with other words the input isn't read, and what they ask for is done
pub data Serves (A : Type 0) {S : Type 0} (reads : Reading S) (writes : Writing S)
    (words : List (List ℕ)) (input input' : Reads) (shelf shelf' : S)
    (out out' : SinkState) (outcome : Outcome A) : Type 0 where
  without_words : words ≡ [] → shelf' ≡ shelf
      → Tells (OfInput (JudgesLog Reports) input input') (IsInputFault input') out out' outcome
      → Serves A reads writes words input input' shelf shelf' out out' outcome
  explained : (explain : ExplainRequest) → IsExplainLine words explain → explain.answer ≡ OneLog → shelf' ≡ shelf
      → Tells (OfInput (ExplainsInput A (json_form explain.is_json)) input input') (IsInputFault input') out out' outcome
      → Serves A reads writes words input input' shelf shelf' out out' outcome
  with_words : words ≢ [] → input' ≡ input → CommandOutcome A reads writes words shelf shelf' out out' outcome
      → Serves A reads writes words input input' shelf shelf' out out' outcome
