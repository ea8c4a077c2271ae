-- What the words after the program's name ask for.
use Rattle.std.specs.Prelude.{◌≡◌, ◌≢◌, ◌⊎◌, ℕ, All, List, [], ◌∷◌, ◌++◌, codes}
use Rattle.clap.specs.Faults.{fault_of}
use Rattle.clap.specs.Walk.{Row, Text, rows_after}
use Rattle.ira_main_cli.specs.Asked.{HasAnswerToExplain, HasFiles, HasFilesToDecide, HasFilesToRewrite}
use Rattle.ira_main_cli.specs.Asked.{HasFoldersToExplain, HasFoldersToJudge, HasLogsToDraw, HasLogsToJudge, HasLogsToMend}
use Rattle.ira_main_cli.specs.Asked.{HasLogsToShow, HasOptions, HasSentence, HasTopic, IsOfFiles, NamesAnswers, NamesFiles}
use Rattle.ira_main_cli.specs.Asked.{NamesFilesToDecide, NamesFilesToRewrite, NamesOptions, NamesSentence}
use Rattle.ira_main_cli.specs.Asked.{NamesLogsToDraw, NamesLogsToJudge, NamesLogsToMend, NamesLogsToShow, NamesTopic}
use Rattle.ira_main_cli.specs.CommandLine.{IsOneOf, commands, ira_app, rules_named}
use Rattle.ira_main_cli.specs.Options.{HasNumber, HasNumberTo}
use Rattle.ira_main_cli.specs.declared.ask_request.AskRequest.{AskRequest}
use Rattle.ira_main_cli.specs.declared.check_request.CheckRequest.{CheckRequest}
use Rattle.ira_main_cli.specs.declared.decide_request.DecideRequest.{DecideRequest}
use Rattle.ira_main_cli.specs.declared.draw_request.DrawRequest.{DrawRequest}
use Rattle.ira_main_cli.specs.declared.each_request.EachRequest.{EachRequest}
use Rattle.ira_main_cli.specs.declared.explain_request.ExplainRequest.{ExplainRequest}
use Rattle.ira_main_cli.specs.declared.guide_topic.GuideTopic.{GuideTopic}
use Rattle.ira_main_cli.specs.declared.logs_request.LogsRequest.{LogsRequest}
use Rattle.ira_main_cli.specs.declared.mend_request.MendRequest.{MendRequest}
use Rattle.ira_main_cli.specs.declared.rewrite_request.RewriteRequest.{RewriteRequest}
use Rattle.ira_main_cli.specs.declared.run_request.RunRequest.{RunRequest}
use Rattle.ira_main_cli.specs.declared.show_request.ShowRequest.{ShowRequest}
use Rattle.ira_main_cli.specs.declared.request.Request.{Request}
use Rattle.ira_main_cli.specs.declared.request.Request.TheVariants.{OneLog, Logs, Each, Explain, Show, Draw, Check, Decide}
use Rattle.ira_main_cli.specs.declared.request.Request.TheVariants.{Ask, Pairs, Run, Upgrade, Mend, Guide, Version}
use Rattle.ira_main_cli.specs.declared.words_fault.WordsFault.{WordsFault}
use Rattle.ira_main_cli.specs.declared.words_fault.WordsFault.TheVariants.{OutOfMemory, Refused}

-- the command line accepts the words: their parse has no fault, of which `fault_of` lists the kinds
abbrev pub AreAcceptedWords : List Text → Type 0
AreAcceptedWords words = fault_of ira_app words ≡ []

-- what is found of the words after a command, by its name
abbrev pub found_after : Text → List Text → List Row
found_after name others = rows_after (rules_named name) [] others

-- the options and names that are found after a command go together: logs are named in one way, by names or by a folder,
-- where the command takes logs; after `explain` there may be none, where no question is named
pub record GoTogetherAfter (name : Text) (rows : List Row) : Type 0 where
  pub logs : name ≡ codes "logs" → NamesLogsToJudge rows
  pub explain : name ≡ codes "explain" → NamesAnswers rows
  pub show : name ≡ codes "show" → NamesLogsToShow rows
  pub draw : name ≡ codes "draw" → NamesLogsToDraw rows
  pub check : name ≡ codes "check" → NamesFiles rows
  pub decide : name ≡ codes "decide" → NamesFilesToDecide rows
  pub pairs : name ≡ codes "pairs" → HasNumberTo 18446744073709551615 rows (codes "N")
  pub run : name ≡ codes "run" → NamesOptions rows
  pub upgrade : name ≡ codes "upgrade" → NamesFilesToRewrite rows
  pub mend : name ≡ codes "mend" → NamesLogsToMend rows
  pub ask : name ≡ codes "ask" → NamesSentence rows
  pub guide : name ≡ codes "guide" → NamesTopic rows

-- the words begin with the name of a command, and those that are found of the others go together
abbrev pub GoTogether : List Text → Type 0
GoTogether words =
    (name : Text) × (others : List Text) × (words ≡ name ∷ others) × IsOneOf name commands
    × GoTogetherAfter name (found_after name others)

-- what is found after a command asks for this
abbrev pub Asks : Text → List Row → Request → Type 0
Asks name rows OneLog = ⊥
Asks name rows (Logs request) = (name ≡ codes "logs") × HasLogsToJudge rows request
Asks name rows (Each request) = ((name ≡ codes "logs") × HasFoldersToJudge rows request)
    ⊎ ((name ≡ codes "explain") × HasFoldersToExplain rows request)
Asks name rows (Explain explain) = (name ≡ codes "explain") × HasAnswerToExplain rows explain
Asks name rows (Show show) = (name ≡ codes "show") × HasLogsToShow rows show
Asks name rows (Draw draw) = (name ≡ codes "draw") × HasLogsToDraw rows draw
Asks name rows (Check check) = (name ≡ codes "check") × HasFiles rows check
Asks name rows (Decide decide) = (name ≡ codes "decide") × HasFilesToDecide rows decide
Asks name rows (Pairs nodes) = (name ≡ codes "pairs") × HasNumber rows (codes "N") nodes
Asks name rows (Ask ask) = (name ≡ codes "ask") × HasSentence rows ask
Asks name rows (Run ring) = (name ≡ codes "run") × HasOptions rows ring
Asks name rows (Upgrade upgrade) = (name ≡ codes "upgrade") × HasFilesToRewrite rows upgrade
Asks name rows (Mend mend) = (name ≡ codes "mend") × HasLogsToMend rows mend
Asks name rows (Guide topic) = (name ≡ codes "guide") × HasTopic rows topic
Asks name rows Version = name ≡ codes "version"

-- the command line accepts the words: the name of a command and others, and what is found of these asks for the request
pub record IsCommandLine (words : List Text) (request : Request) : Type 0 where
  pub accepted : AreAcceptedWords words
  pub name : Text
  pub others : List Text
  pub first : words ≡ name ∷ others
  pub asked : Asks name (found_after name others) request

-- a word that may name a file as it stands: it doesn't begin with a dash
abbrev pub IsFileName : Text → Type 0
IsFileName [] = Unit {0}
IsFileName (b ∷ bs) = b ≢ 45

-- `logs` and others without `--each` and `--sum`, which name the source of logs, and `--json` perhaps. Where none of the others begins with a dash,
-- these are names of files; where one is the first that does, and is `--`, the words after it are names too
pub record IsLogsLine (words : List Text) (request : LogsRequest) : Type 0 where
  pub line : IsCommandLine words (Logs request)
  pub plain : All IsFileName line.others → IsOfFiles request.logs line.others
  pub marked : (front back : List Text) → All IsFileName front → line.others ≡ front ++ codes "--" ∷ back
      → IsOfFiles request.logs (front ++ back)

-- `logs` or `explain`, `--each` or `--sum`, and folders, which ask for each of these to be judged
abbrev pub IsEachLine : List Text → EachRequest → Type 0
IsEachLine words request = IsCommandLine words (Each request)

-- `explain`, options and logs, or `explain` alone, which ask for this answer
abbrev pub IsExplainLine : List Text → ExplainRequest → Type 0
IsExplainLine words explain = IsCommandLine words (Explain explain)

-- `show`, options and logs, which ask for these to be shown
abbrev pub IsShowLine : List Text → ShowRequest → Type 0
IsShowLine words show = IsCommandLine words (Show show)

-- `draw`, options and logs, which ask for these to be drawn
abbrev pub IsDrawLine : List Text → DrawRequest → Type 0
IsDrawLine words draw = IsCommandLine words (Draw draw)

-- `check`, options and logs, which ask for these files
abbrev pub IsCheckLine : List Text → CheckRequest → Type 0
IsCheckLine words check = IsCommandLine words (Check check)

-- `decide`, options and logs, which ask for these files
abbrev pub IsDecideLine : List Text → DecideRequest → Type 0
IsDecideLine words decide = IsCommandLine words (Decide decide)

-- `pairs` and a number of nodes
abbrev pub IsPairsLine : List Text → ℕ → Type 0
IsPairsLine words nodes = IsCommandLine words (Pairs nodes)

-- `ask`, a number of nodes or a folder, and a sentence
abbrev pub IsAskLine : List Text → AskRequest → Type 0
IsAskLine words ask = IsCommandLine words (Ask ask)

-- `run` and options, which ask for this ring
abbrev pub IsRunLine : List Text → RunRequest → Type 0
IsRunLine words ring = IsCommandLine words (Run ring)

-- `upgrade`, an option and logs, which ask for these files
abbrev pub IsUpgradeLine : List Text → RewriteRequest → Type 0
IsUpgradeLine words upgrade = IsCommandLine words (Upgrade upgrade)

-- `mend`, options and logs, which ask for these files
abbrev pub IsMendLine : List Text → MendRequest → Type 0
IsMendLine words mend = IsCommandLine words (Mend mend)

-- `guide` and perhaps its topic
abbrev pub IsGuideLine : List Text → GuideTopic → Type 0
IsGuideLine words topic = IsCommandLine words (Guide topic)

-- the option `--version` or `-V` alone
abbrev pub IsVersionOption : List Text → Type 0
IsVersionOption words = (words ≡ codes "--version" ∷ []) ⊎ (words ≡ codes "-V" ∷ [])

-- that, or `version`
abbrev pub IsVersionLine : List Text → Type 0
IsVersionLine words = IsVersionOption words ⊎ IsCommandLine words Version

-- these words make the request
abbrev pub IsMadeOf : List Text → Request → Type 0
IsMadeOf words OneLog = words ≡ []
IsMadeOf words (Logs request) = IsLogsLine words request
IsMadeOf words Version = IsVersionLine words
IsMadeOf words request = IsCommandLine words request

-- such words may be refused so: for want of memory any, and else only those that the command line doesn't accept, or
-- whose options and names don't go together; never an option that asks for the version
abbrev pub MayBeRefused : List Text → WordsFault → Type 0
MayBeRefused words (Refused text) = ¬ IsVersionOption words × (AreAcceptedWords words → GoTogether words → ⊥)
MayBeRefused words OutOfMemory = Unit {0}
