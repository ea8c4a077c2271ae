-- What words ask for, by the options and names that are given after a command.
use Rattle.std.specs.Prelude.{ℕ, All, Bool, List, None, Option, Some, [], codes, false, is_some, map, option_map, true}
use Rattle.std.specs.Prelude.{◌≡◌, ◌≢◌, ◌≤◌, ◌⊎◌}
use Rattle.std.specs.Borrow.{Bor}
use Rattle.clap.specs.Walk.{Row, Text, all_of, first_of}
use Rattle.ira_main_cli.specs.Options.{HasNumber, HasNumberTo, HasNumbers, IsLeftOut, ListsNumber, ListsNumbers}
use Rattle.ira_main_cli.specs.Options.{MayHaveNumber, WritesNumbers, is_set}
use Rattle.ira_main_cli.specs.declared.asked_leaders.AskedLeaders.{AskedLeaders}
use Rattle.ira_main_cli.specs.declared.asked_leaders.AskedLeaders.TheVariants.{Any, File, Places}
use Rattle.ira_main_cli.specs.declared.asked_moment.AskedMoment.{AskedMoment}
use Rattle.ira_main_cli.specs.declared.asked_moment.AskedMoment.TheVariants.{AtCut, AtEnd, OfQuestion}
use Rattle.ira_main_cli.specs.declared.asked_size.AskedSize.{AskedSize}
use Rattle.ira_main_cli.specs.declared.asked_size.AskedSize.TheVariants as ring
use Rattle.ira_main_cli.specs.declared.case_selection.CaseSelection.{CaseSelection}
use Rattle.ira_main_cli.specs.declared.check_request.CheckRequest.{CheckRequest}
use Rattle.ira_main_cli.specs.declared.decide_request.DecideRequest.{DecideRequest}
use Rattle.ira_main_cli.specs.declared.draw_request.DrawRequest.{DrawRequest}
use Rattle.ira_main_cli.specs.declared.each_request.EachRequest.{EachRequest}
use Rattle.ira_main_cli.specs.declared.expectation.Expectation.{Expectation}
use Rattle.ira_main_cli.specs.declared.ask_request.AskRequest.{AskRequest}
use Rattle.ira_main_cli.specs.declared.explain_request.ExplainRequest.{ExplainRequest}
use Rattle.ira_main_cli.specs.declared.explained_answer.ExplainedAnswer.{ExplainedAnswer}
use Rattle.ira_main_cli.specs.declared.explained_answer.ExplainedAnswer.TheVariants as explained
use Rattle.ira_main_cli.specs.declared.folder_detail.FolderDetail.TheVariants.{Line, Reasons}
use Rattle.ira_main_cli.specs.declared.guide_topic.GuideTopic.{GuideTopic}
use Rattle.ira_main_cli.specs.declared.guide_topic.GuideTopic.TheVariants as topic
use Rattle.ira_main_cli.specs.declared.log_source.LogSource.{LogSource}
use Rattle.ira_main_cli.specs.declared.log_source.LogSource.TheVariants.{Files, Folder}
use Rattle.ira_main_cli.specs.declared.logs_request.LogsRequest.{LogsRequest}
use Rattle.ira_main_cli.specs.declared.mend_request.MendRequest.{MendRequest}
use Rattle.ira_main_cli.specs.declared.request.Request.{Request}
use Rattle.ira_main_cli.specs.declared.request.Request.TheVariants.{Each, Explain, Logs}
use Rattle.ira_main_cli.specs.declared.question_source.QuestionSource.{QuestionSource}
use Rattle.ira_main_cli.specs.declared.question_source.QuestionSource.TheVariants as source
use Rattle.ira_main_cli.specs.declared.rewrite_request.RewriteRequest.{RewriteRequest}
use Rattle.ira_main_cli.specs.declared.run_request.RunRequest.{RunRequest}
use Rattle.ira_main_cli.specs.declared.show_request.ShowRequest.{ShowRequest}

-- ---- where logs come from

-- from the files of these names, of which there is at least one, or from this folder; never both are given
abbrev pub HasLogs : List Row → LogSource → Type 0
HasLogs rows (Files names) =
    (all_of (codes "LOG") rows ≡ Some (map (λ name. name.now) names.items)) × (names.items ≢ [])
    × (first_of (codes "dir") rows ≡ None)
HasLogs rows (Folder folder) =
    (first_of (codes "dir") rows ≡ Some folder.now) × (all_of (codes "LOG") rows ≡ None)

-- or from neither, where none are given
abbrev pub MayHaveLogs : List Row → Option LogSource → Type 0
MayHaveLogs rows (Some source) = HasLogs rows source
MayHaveLogs rows None = (first_of (codes "dir") rows ≡ None) × (all_of (codes "LOG") rows ≡ None)

-- names or a folder are given, and not both
abbrev pub NamesLogs : List Row → Type 0
NamesLogs rows = (is_some (first_of (codes "dir") rows) ≢ is_some (all_of (codes "LOG") rows))
    × (all_of (codes "LOG") rows ≢ Some [])

-- both aren't given
abbrev pub MayNameLogs : List Row → Type 0
MayNameLogs rows = ((first_of (codes "dir") rows ≡ None) ⊎ (all_of (codes "LOG") rows ≡ None))
    × (all_of (codes "LOG") rows ≢ Some [])

-- the files of these names
abbrev pub IsOfFiles : LogSource → List (List ℕ) → Type 0
IsOfFiles (Files names) files = map (λ name. name.now) names.items ≡ files
IsOfFiles (Folder folder) files = ⊥

-- an option or name has a value
abbrev pub HasText : List Row → Text → Type 0
HasText rows name = first_of name rows ≢ None

-- ---- a question, and perhaps a case of it

-- the question is that of the file of this name, or of this sentence; never both are given
abbrev pub HasSource : List Row → QuestionSource → Type 0
HasSource rows (source.File name) =
    (first_of (codes "question") rows ≡ Some name.now) × IsLeftOut (codes "ask") rows
HasSource rows (source.Sentence sentence) =
    (first_of (codes "ask") rows ≡ Some sentence.now) × IsLeftOut (codes "question") rows

-- neither is given
abbrev pub NamesNoQuestion : List Row → Type 0
NamesNoQuestion rows = IsLeftOut (codes "question") rows × IsLeftOut (codes "ask") rows

-- or there is none, where neither is
abbrev pub MayHaveSource : List Row → Option QuestionSource → Type 0
MayHaveSource rows (Some given) = HasSource rows given
MayHaveSource rows None = NamesNoQuestion rows

-- both aren't given
abbrev pub MayNameQuestion : List Row → Type 0
MayNameQuestion rows = IsLeftOut (codes "question") rows ⊎ IsLeftOut (codes "ask") rows

-- the question comes from what is named, and the case is the value of this option
pub record HasQuestion (rows : List Row) (asked : CaseSelection) : Type 0 where
  pub question : HasSource rows asked.question
  pub case : MayHaveNumber rows (codes "case") asked.case

-- ---- a moment of the logged run

-- the moment is the one that is named: by a cut, by a question, or the end, where neither is given
abbrev pub HasMoment : List Row → AskedMoment → Type 0
HasMoment rows AtEnd =
    IsLeftOut (codes "at") rows × NamesNoQuestion rows × IsLeftOut (codes "case") rows
HasMoment rows (AtCut events) =
    HasNumbers rows (codes "at") events.items × NamesNoQuestion rows × IsLeftOut (codes "case") rows
HasMoment rows (OfQuestion asked) = IsLeftOut (codes "at") rows × HasQuestion rows asked

-- options that go together: a cut is a list of numbers, it isn't named with a question, which is named in one way, and a
-- case isn't named without one
pub record NamesMoment (rows : List Row) : Type 0 where
  pub cut : ListsNumbers (codes "at") rows
  pub one : IsLeftOut (codes "at") rows ⊎ NamesNoQuestion rows
  pub source : MayNameQuestion rows
  pub question : NamesNoQuestion rows → IsLeftOut (codes "case") rows
  pub case : ListsNumber (codes "case") rows

-- ---- leaders

-- who is to lead: some node, where the option says `any`, or else the nodes of its numbers, or where it lists none those
-- that the file of this name has; nothing is asked where it is left out
abbrev pub HasLeaders : List Row → Option AskedLeaders → Type 0
HasLeaders rows None = IsLeftOut (codes "leads") rows
HasLeaders rows (Some Any) = first_of (codes "leads") rows ≡ Some (codes "any")
HasLeaders rows (Some (Places places)) = HasNumbers rows (codes "leads") places.items
HasLeaders rows (Some (File name)) =
    (first_of (codes "leads") rows ≡ Some name.now) × (name.now ≢ codes "any") × ¬ WritesNumbers name.now

-- what is expected of an election: that it is over exactly where `--over` is given, and who is to lead
abbrev pub HasExpectation : List Row → Expectation → Type 0
HasExpectation rows expected =
    (expected.is_over ≡ is_set (codes "over") rows) × HasLeaders rows expected.leaders

-- nothing is
abbrev pub ExpectsNothing : List Row → Type 0
ExpectsNothing rows = (is_set (codes "over") rows ≡ false) × IsLeftOut (codes "leads") rows

-- ---- an answer to explain

-- neither a question nor anything of one is named
pub record AsksNothing (rows : List Row) : Type 0 where
  pub question : NamesNoQuestion rows
  pub case : IsLeftOut (codes "case") rows
  pub certificate : IsLeftOut (codes "cert") rows

-- what is named is the question, perhaps a case of it, and the logs
pub record HasFindings (rows : List Row) (asked : CaseSelection) (logs : LogSource) : Type 0 where
  pub asked_is : HasQuestion rows asked
  pub certificate : IsLeftOut (codes "cert") rows
  pub expected : ExpectsNothing rows
  pub logs_are : HasLogs rows logs

-- what is named is the question, the certificate and the logs
pub record HasCertificate (rows : List Row) (question : QuestionSource) (certificate : List ℕ) (logs : LogSource)
    : Type 0 where
  pub question_is : HasSource rows question
  pub case : IsLeftOut (codes "case") rows
  pub certificate_is : first_of (codes "cert") rows ≡ Some certificate
  pub expected : ExpectsNothing rows
  pub logs_are : HasLogs rows logs

-- the answer is that of what is named
abbrev pub HasAnswer : List Row → ExplainedAnswer → Type 0
HasAnswer rows explained.OneLog =
    AsksNothing rows × ExpectsNothing rows × IsLeftOut (codes "dir") rows × (all_of (codes "LOG") rows ≡ None)
HasAnswer rows (explained.Logs expected source) = AsksNothing rows × HasExpectation rows expected × HasLogs rows source
HasAnswer rows (explained.Findings asked logs) = HasFindings rows asked logs
HasAnswer rows (explained.Certificate question certificate logs) = HasCertificate rows question certificate.now logs

-- options and names that go together: neither the logs nor the question are named by both, a case or a certificate, and not
-- both, is named with a question alone, a question with logs alone, and something is expected of an election with logs and
-- no question
pub record NamesAnswer (rows : List Row) : Type 0 where
  pub logs : MayNameLogs rows
  pub source : MayNameQuestion rows
  pub question : NamesNoQuestion rows → IsLeftOut (codes "case") rows × IsLeftOut (codes "cert") rows
  pub asked_of_logs : NamesNoQuestion rows ⊎ NamesLogs rows
  pub one : IsLeftOut (codes "case") rows ⊎ IsLeftOut (codes "cert") rows
  pub expected : ExpectsNothing rows ⊎ (NamesNoQuestion rows × NamesLogs rows)
  pub case : ListsNumber (codes "case") rows

-- the answer is that of what is named together, and JSON is wanted exactly where `--json` is given
pub record HasAnswerToExplain (rows : List Row) (explain : ExplainRequest) : Type 0 where
  pub answer : HasAnswer rows explain.answer
  pub together : is_set (codes "each") rows ≡ false
  pub json : explain.is_json ≡ is_set (codes "json") rows

-- ---- the other requests

-- the logs come from what is named, with what is expected of their election, and JSON is wanted exactly where `--json` is
-- given
pub record HasLogsToJudge (rows : List Row) (request : LogsRequest) : Type 0 where
  pub json : request.is_json ≡ is_set (codes "json") rows
  pub expected : HasExpectation rows request.expected
  pub together : (is_set (codes "each") rows ≡ false) × (is_set (codes "sum") rows ≡ false)
  pub logs : HasLogs rows request.logs

-- the names are those of the folders, of which there is at least one, and none is empty
pub record HasFolders (rows : List Row) (folders : List (Bor Text)) : Type 0 where
  pub names : all_of (codes "LOG") rows ≡ Some (map (λ name. name.now) folders)
  pub some : folders ≢ []
  pub named : All (λ folder. folder.now ≢ []) folders
  pub folder : IsLeftOut (codes "dir") rows

-- the same where `--each` or `--sum` is given, with what is expected of each election, and a sum exactly where `--sum` is
pub record HasFoldersToJudge (rows : List Row) (request : EachRequest) : Type 0 where
  pub detail : request.detail ≡ Line
  pub json : request.is_json ≡ is_set (codes "json") rows
  pub expected : HasExpectation rows request.expected
  pub sum : request.is_summed ≡ is_set (codes "sum") rows
  pub each : (is_set (codes "each") rows ≡ true) ⊎ (is_set (codes "sum") rows ≡ true)
  pub folders : HasFolders rows request.folders.items

-- the same where reasons are asked for as well; neither a question nor anything of one is named
pub record HasFoldersToExplain (rows : List Row) (request : EachRequest) : Type 0 where
  pub detail : request.detail ≡ Reasons
  pub json : request.is_json ≡ is_set (codes "json") rows
  pub expected : HasExpectation rows request.expected
  pub nothing : AsksNothing rows
  pub no_sum : request.is_summed ≡ false
  pub each : is_set (codes "each") rows ≡ true
  pub folders : HasFolders rows request.folders.items

-- names are given, none of which is empty, and no folder of one ring's logs
pub record NamesFolders (rows : List Row) : Type 0 where
  pub folder : IsLeftOut (codes "dir") rows
  pub names : List Text
  pub given : all_of (codes "LOG") rows ≡ Some names
  pub some : names ≢ []
  pub named : All (λ name. name ≢ []) names

-- where each folder is to be judged folders are named, and else logs are
pub record NamesLogsToJudge (rows : List Row) : Type 0 where
  pub logs : NamesLogs rows
  pub folders : (is_set (codes "each") rows ≡ true) ⊎ (is_set (codes "sum") rows ≡ true) → NamesFolders rows

-- where each folder is to be explained folders are named, and neither a question nor anything of one; else an answer is
pub record NamesAnswers (rows : List Row) : Type 0 where
  pub answer : is_set (codes "each") rows ≡ false → NamesAnswer rows
  pub question : is_set (codes "each") rows ≡ true → AsksNothing rows
  pub folders : is_set (codes "each") rows ≡ true → NamesFolders rows

-- the request has the values of these options, and the logs that are named beside them; events and JSON are wanted
-- exactly where `--events` and `--json` are given
pub record HasLogsToShow (rows : List Row) (show : ShowRequest) : Type 0 where
  pub leads : HasLeaders rows show.leads
  pub moment : HasMoment rows show.moment
  pub events : show.has_events ≡ is_set (codes "events") rows
  pub json : show.is_json ≡ is_set (codes "json") rows
  pub logs : HasLogs rows show.logs

-- options and names that go together: a moment and logs are named in one way
pub record NamesLogsToShow (rows : List Row) : Type 0 where
  pub moment : NamesMoment rows
  pub logs : NamesLogs rows

-- the request has the values of these options, of which those of columns may be left out, and the logs that are named
-- beside them
pub record HasLogsToDraw (rows : List Row) (draw : DrawRequest) : Type 0 where
  pub picture : first_of (codes "out") rows ≡ Some draw.picture.now
  pub moment : HasMoment rows draw.moment
  pub from : MayHaveNumber rows (codes "from") draw.from
  pub to : MayHaveNumber rows (codes "to") draw.to
  pub logs : HasLogs rows draw.logs

-- options and names that go together: a moment and logs are named in one way
pub record NamesLogsToDraw (rows : List Row) : Type 0 where
  pub picture : HasText rows (codes "out")
  pub from : ListsNumber (codes "from") rows
  pub to : ListsNumber (codes "to") rows
  pub moment : NamesMoment rows
  pub logs : NamesLogs rows

-- the files are the values of these options, and the logs come from what is named beside them; the depth is 0 to 4, and
-- JSON is wanted exactly where `--json` is given
pub record HasFiles (rows : List Row) (check : CheckRequest) : Type 0 where
  pub question : first_of (codes "question") rows ≡ Some check.question.now
  pub certificate : first_of (codes "cert") rows ≡ Some check.certificate.now
  pub depth : HasNumber rows (codes "depth") check.depth
  pub shallow : check.depth ≤ 4
  pub json : check.is_json ≡ is_set (codes "json") rows
  pub logs : HasLogs rows check.logs

-- what is needed is given
pub record NamesFiles (rows : List Row) : Type 0 where
  pub question : HasText rows (codes "question")
  pub certificate : HasText rows (codes "cert")
  pub depth : HasNumberTo 4 rows (codes "depth")
  pub logs : NamesLogs rows

-- the file of the certificate is the value of this option, which may be left out, and question and logs come from what is
-- named beside it; JSON is wanted exactly where `--json` is given
pub record HasFilesToDecide (rows : List Row) (decide : DecideRequest) : Type 0 where
  pub question : HasSource rows decide.question
  pub certificate : first_of (codes "out") rows ≡ option_map (λ name. name.now) decide.certificate
  pub json : decide.is_json ≡ is_set (codes "json") rows
  pub logs : HasLogs rows decide.logs

-- what is needed is given, the question in one way
pub record NamesFilesToDecide (rows : List Row) : Type 0 where
  pub source : MayNameQuestion rows
  pub question : ¬ (NamesNoQuestion rows)
  pub logs : NamesLogs rows

-- the folder is the value of this option, and the logs come from what is named beside it
pub record HasFilesToRewrite (rows : List Row) (rewrite : RewriteRequest) : Type 0 where
  pub folder : first_of (codes "out") rows ≡ Some rewrite.folder.now
  pub logs : HasLogs rows rewrite.logs

-- what is needed is given
pub record NamesFilesToRewrite (rows : List Row) : Type 0 where
  pub folder : HasText rows (codes "out")
  pub logs : NamesLogs rows

-- a node is taken for an initiator: the option says so or is left out; or for a passive one, where it says so
abbrev pub SaysStart : List Row → Bool → Type 0
SaysStart rows true = IsLeftOut (codes "start") rows ⊎ (first_of (codes "start") rows ≡ Some (codes "initiator"))
SaysStart rows false = first_of (codes "start") rows ≡ Some (codes "passive")

-- it says one of these
abbrev pub NamesStart : List Row → Type 0
NamesStart rows = SaysStart rows true ⊎ SaysStart rows false

-- the logs at these places are lost, where the option says so
abbrev pub HasLost : List Row → Option (List ℕ) → Type 0
HasLost rows None = IsLeftOut (codes "lost") rows
HasLost rows (Some places) = HasNumbers rows (codes "lost") places

-- the folder, the start and the lost logs are the values of these options, and the logs come from what is named beside them
pub record HasLogsToMend (rows : List Row) (mend : MendRequest) : Type 0 where
  pub folder : first_of (codes "out") rows ≡ Some mend.folder.now
  pub start : SaysStart rows mend.is_initiator
  pub lost : HasLost rows (option_map (λ places. places.items) mend.lost)
  pub logs : HasLogs rows mend.logs

-- options and names that go together: the start is one of two, places of lost logs are numbers, and logs are named in one way
pub record NamesLogsToMend (rows : List Row) : Type 0 where
  pub folder : HasText rows (codes "out")
  pub start : NamesStart rows
  pub lost : ListsNumbers (codes "lost") rows
  pub logs : NamesLogs rows

-- the guide is on the commands, where no topic is named, or else on that one
abbrev pub HasTopic : List Row → GuideTopic → Type 0
HasTopic rows topic.Commands = IsLeftOut (codes "TOPIC") rows
HasTopic rows topic.Questions = first_of (codes "TOPIC") rows ≡ Some (codes "questions")
HasTopic rows topic.Logs = first_of (codes "TOPIC") rows ≡ Some (codes "logs")

-- there is a guide on what is named
abbrev pub NamesTopic : List Row → Type 0
NamesTopic rows = (topic : GuideTopic) × HasTopic rows topic

-- how many nodes the ring has is the value of the one option, or said by the folder that is that of the other
abbrev pub HasSize : List Row → AskedSize → Type 0
HasSize rows (ring.Nodes nodes) = HasNumber rows (codes "nodes") nodes × IsLeftOut (codes "dir") rows
HasSize rows (ring.Folder folder) =
    (first_of (codes "dir") rows ≡ Some folder.now) × IsLeftOut (codes "nodes") rows

-- one of them is given, and not both
pub record NamesSize (rows : List Row) : Type 0 where
  pub one : IsLeftOut (codes "nodes") rows ⊎ IsLeftOut (codes "dir") rows
  pub some : IsLeftOut (codes "nodes") rows → IsLeftOut (codes "dir") rows → ⊥
  pub number : ListsNumber (codes "nodes") rows

-- the sentence is the value of this, and how many nodes the ring has is said
pub record HasSentence (rows : List Row) (ask : AskRequest) : Type 0 where
  pub size : HasSize rows ask.size
  pub sentence : first_of (codes "SENTENCE") rows ≡ Some ask.sentence.now

-- what is needed is given
pub record NamesSentence (rows : List Row) : Type 0 where
  pub size : NamesSize rows
  pub sentence : HasText rows (codes "SENTENCE")

-- the ring has the values of these options, at most 100,000 draws, and one thread exactly where `--alone` is given
pub record HasOptions (rows : List Row) (ring : RunRequest) : Type 0 where
  pub nodes : HasNumber rows (codes "nodes") ring.nodes
  pub seed : HasNumber rows (codes "seed") ring.seed
  pub folder : first_of (codes "out") rows ≡ Some ring.folder.now
  pub initiators : MayHaveNumber rows (codes "initiators") ring.initiators
  pub draws : HasNumber rows (codes "draws") ring.draws
  pub few : ring.draws ≤ 100000
  pub cap : HasNumber rows (codes "cap") ring.cap
  pub terms : HasNumber rows (codes "terms") ring.terms
  pub alone : ring.is_alone ≡ is_set (codes "alone") rows

-- what is needed is given
pub record NamesOptions (rows : List Row) : Type 0 where
  pub nodes : HasNumberTo 18446744073709551615 rows (codes "nodes")
  pub seed : HasNumberTo 18446744073709551615 rows (codes "seed")
  pub cap : HasNumberTo 18446744073709551615 rows (codes "cap")
  pub terms : HasNumberTo 18446744073709551615 rows (codes "terms")
  pub draws : HasNumberTo 100000 rows (codes "draws")
  pub initiators : ListsNumber (codes "initiators") rows
  pub folder : HasText rows (codes "out")

-- logs are to be judged together, or those of each folder
abbrev pub AsksLogs : List Row → Request → Type 0
AsksLogs rows (Logs request) = HasLogsToJudge rows request
AsksLogs rows (Each request) = HasFoldersToJudge rows request
AsksLogs rows other = ⊥

-- the answer of logs is to be explained, or those of each folder
abbrev pub AsksReasons : List Row → Request → Type 0
AsksReasons rows (Explain explain) = HasAnswerToExplain rows explain
AsksReasons rows (Each request) = HasFoldersToExplain rows request
AsksReasons rows other = ⊥
