-- What the program does that is asked to judge the logs in each of some folders.
use Rattle.std.specs.Prelude.{◌≡◌, ◌≢◌, ◌⊎◌, ℕ, Bool, List, [], ◌∷◌, ◌++◌, None, Ok, Err, true}
use Rattle.std.specs.Prelude.{if◌then◌else◌, take}
use Rattle.std.specs.Borrow.{Bor}
use Rattle.std.specs.List.{filter_map, list_any}
use Rattle.std.specs.Result.{result_err}
use Rattle.ira_event.specs.Sink.{SinkState, StopsIn, Takes}
use Rattle.ira_commands.specs.Answers.{Answers}
use Rattle.ira_commands.specs.Output.{IsPrinted}
use Rattle.ira_commands.specs.Reply.{Reply}
use Rattle.ira_commands.specs.declared.expected.Expected.{Expected}
use Rattle.ira_commands.specs.declared.logs_command.LogsCommand.{LogsCommand}
use Rattle.ira_view.specs.declared.form.Form.{Form}
use Rattle.ira_main_cli.specs.declared.expectation.Expectation.{Expectation}
use Rattle.ira_main_cli.specs.declared.folder_detail.FolderDetail.{FolderDetail}
use Rattle.ira_main_cli.specs.declared.folder_detail.FolderDetail.TheVariants.{Reasons}
use Rattle.ira_main_cli.specs.declared.log_source.LogSource.TheVariants.{Folder}
use Rattle.ira_main_files.specs.Shelf.{Reading}
use Rattle.ira_main.specs.FilesRead.{HasTakenFiles, ReadsFiles, Stops}
use Rattle.ira_main.specs.FolderText.{FolderAnswer, IsFolderText, features_of, is_no}
use Rattle.ira_main.specs.Judge.{IsExpectedBy, asked_of, has_reasons}
use Rattle.ira_main.specs.JudgedFolder.{IsJudgedOf}
use Rattle.ira_main.specs.LeadersFile.{HasLeadersIn, IsNoLeaders}
use Rattle.ira_main.specs.Outcome.{Outcome}
use Rattle.ira_main.specs.SourceNames.{HasNames, IsNamesFault}
use Rattle.ira_main.specs.declared.folder_answer.FolderTexts.{FolderTexts}
use Rattle.ira_main.specs.declared.judged_folder.JudgedFolder.{JudgedFolder}
use Rattle.ira_main.specs.declared.file_fault.FileFault.{FileFault}
use Rattle.ira_main.specs.FileFault.{name_of}
use Rattle.ira_main.specs.declared.program_fault.ProgramFault.TheVariants.{CannotReadSome, CannotWriteAnswer, OutOfMemory}
use Rattle.ira_view_json.specs.declared.run_features.RunFeatures.{RunFeatures}
use Rattle.ira_view_page.specs.declared.show_fault.ShowFault.{ShowFault}
use Rattle.ira_view_page.specs.declared.show_fault.ShowFault.TheVariants as show
use Rattle.ira_view.specs.ViewText.{IsSumText}
use Rattle.ira_view.specs.declared.status.Status.{Status}
use Rattle.ira_view.specs.declared.status.Status.TheVariants as status

-- why the texts of a folder aren't judged: there are no leaders in the file of these, if one is named; or a log can't be read
abbrev pub IsFolderFault : {A S : Type 0} → Reading S → Expectation → S → Bor (List ℕ) → FileFault A → Type 0
IsFolderFault reads expected shelf folder fault =
    IsNoLeaders reads shelf (Folder folder) expected.leaders fault
    ⊎ (IsNamesFault reads shelf (Folder folder) fault
    ⊎ ((names : List (List ℕ)) × HasNames reads shelf (Folder folder) names × Stops reads shelf names fault))

-- the file of leaders was read, if one is named, and the texts of a folder's logs were taken, and kept where that is asked
abbrev pub HasFolderTexts : {A S : Type 0} → Reading S → Expectation → Bool → S → Bor (List ℕ) → FolderTexts A → Type 0
HasFolderTexts reads expected keep shelf folder taken =
    HasLeadersIn reads shelf (Folder folder) expected.leaders taken.leaders.items
    × HasNames reads shelf (Folder folder) taken.names.items
    × HasTakenFiles reads shelf keep taken.names.items taken.logs

-- what `explain` prints of logs in files of these names, which gave these texts: nothing where that is refused, since one of
-- those who are to lead is no node of the ring
abbrev pub IsExplained : Type 0 → LogsCommand → List (List ℕ) → List (List ℕ) → List ℕ → Type 0
IsExplained A command names texts why = (reply : Reply) × Answers A command (record {
  question = record { name = []; text = [] };
  certificate = record { name = []; text = [] };
  names = names;
  texts = texts;
}) reply × (((reply.fault ≡ None) × IsPrinted reply.out why) ⊎ ((reply.fault ≢ None) × (why ≡ [])))

-- that is printed below the line of a no where reasons are asked for
abbrev pub IsBelow : Type 0 → Form → Bool → Bool → Expected → List (List ℕ) → List (List ℕ) → List ℕ → Type 0
IsBelow A form true true asked names texts why =
    IsExplained A (asked_of Reasons form asked.is_over asked.leaders) names texts why
IsBelow A form _ _ asked names texts why = why ≡ []

-- the logs in a folder gave these texts, and are judged so: its line is printed, and what stands below it
pub record TellsJudged (A : Type 0) (form : Form) (expected : Expectation) (detail : FolderDetail) (is_summed : Bool)
    (leaders : List ℕ) (names texts : List (List ℕ)) (folder : List ℕ) (answer : FolderAnswer) (text : List ℕ)
    : Type 0 where
  pub asked : Expected
  pub asked_is : IsExpectedBy expected leaders asked
  pub judged : JudgedFolder
  pub judged_is : IsJudgedOf asked is_summed texts judged
  pub answer_is : answer ≡ Ok judged
  pub line : List ℕ
  pub line_is : IsFolderText form folder answer line
  pub why : List ℕ
  pub why_is : IsBelow A form (has_reasons detail) (is_no answer) asked names texts why
  pub text_is : text ≡ line ++ why

-- what is told of a folder: what comes of it, and its line
abbrev pub FolderTelling : Type 1
FolderTelling = Bor (List ℕ) → FolderAnswer → List ℕ → Type 0

-- this is told of folders, one after another
abbrev pub AreTold : FolderTelling → List (Bor (List ℕ)) → List FolderAnswer → List ℕ → Type 0
AreTold Told [] [] text = text ≡ []
AreTold Told (folder ∷ folders) (answer ∷ answers) text =
    (line : List ℕ) × (rest : List ℕ) × (text ≡ line ++ rest) × Told folder answer line × AreTold Told folders answers rest
AreTold Told folders answers text = ⊥

-- the files that weren't read
abbrev pub unread_names : List FolderAnswer → List (List ℕ)
unread_names answers = filter_map result_err answers

-- the status of answers: no where one is no, else yes
abbrev pub each_status : List FolderAnswer → Status
each_status answers = if list_any is_no answers then status.No else status.Yes

-- what the program ends with: where files weren't read these, else the status of the answers
abbrev pub IsEachOutcome : {A : Type 0} → List FolderAnswer → Outcome A → Type 0
IsEachOutcome answers (Ok s) = (unread_names answers ≡ []) × (s ≡ each_status answers)
IsEachOutcome answers (Err (CannotReadSome names)) = (names.items ≡ unread_names answers) × (names.items ≢ [])
IsEachOutcome answers (Err other) = ⊥

-- such a text says how many of some runs had what
abbrev pub Summing : Type 1
Summing = List RunFeatures → List ℕ → Type 0

-- this was told of the folders in their order, and such a sum of their runs after it; or the output stopped within these, or
-- within what is told of a first part of the folders, or memory ran out after that was printed
pub data TellsEach {A : Type 0} (Told : FolderTelling) (Sums : Summing) (folders : List (Bor (List ℕ))) (out out' : SinkState)
    (outcome : Outcome A) : Type 0 where
  told : (answers : List FolderAnswer) (text sum : List ℕ) → AreTold Told folders answers text
      → Sums (filter_map features_of answers) sum → Takes (text ++ sum) out out' → IsEachOutcome answers outcome
      → TellsEach Told Sums folders out out' outcome
  stopped_summing : (answers : List FolderAnswer) (text sum : List ℕ) → AreTold Told folders answers text
      → Sums (filter_map features_of answers) sum → StopsIn (text ++ sum) out out'
      → outcome ≡ Err CannotWriteAnswer → TellsEach Told Sums folders out out' outcome
  stopped : (first : ℕ) (answers : List FolderAnswer) (text : List ℕ)
      → AreTold Told (take first folders) answers text → StopsIn text out out'
      → outcome ≡ Err CannotWriteAnswer → TellsEach Told Sums folders out out' outcome
  no_memory : (first : ℕ) (answers : List FolderAnswer) (text : List ℕ)
      → AreTold Told (take first folders) answers text → Takes text out out'
      → outcome ≡ Err OutOfMemory → TellsEach Told Sums folders out out' outcome

-- the file of leaders, if one is named, and those of a folder's logs were read, and the logs are judged; or a file can't be
-- read, and the line of the folder says so
pub data IsTold (A : Type 0) {S : Type 0} (reads : Reading S) (form : Form) (expected : Expectation) (detail : FolderDetail)
    (is_summed : Bool) (shelf : S) (folder : Bor (List ℕ)) (answer : FolderAnswer) (text : List ℕ) : Type 0 where
  judged : (leaders : List ℕ) (names texts : List (List ℕ))
      → HasLeadersIn reads shelf (Folder folder) expected.leaders leaders
      → HasNames reads shelf (Folder folder) names → ReadsFiles reads shelf names texts None
      → TellsJudged A form expected detail is_summed leaders names texts folder.now answer text
      → IsTold A reads form expected detail is_summed shelf folder answer text
  unread : (fault : FileFault A) → IsFolderFault reads expected shelf folder fault → answer ≡ Err (name_of fault)
      → IsFolderText form folder.now answer text → IsTold A reads form expected detail is_summed shelf folder answer text

-- each of the folders was judged for itself, and this printed of it, and below all how many of their runs had what, where
-- that is asked
abbrev pub JudgesEach : (A : Type 0) → {S : Type 0} → Reading S → Form → Expectation → FolderDetail → Bool
    → List (Bor (List ℕ)) → S → SinkState → SinkState → Outcome A → Type 0
JudgesEach A reads form expected detail is_summed folders shelf out out' outcome =
    TellsEach (IsTold A reads form expected detail is_summed shelf) (IsSumText is_summed form) folders out out' outcome

-- ---- Helpers, no definitions.

-- this was told of each of some folders, and printed
abbrev pub TellsSome : FolderTelling → List (Bor (List ℕ)) → SinkState → SinkState → List FolderAnswer → Type 0
TellsSome Told folders out out' answers = (text : List ℕ) × AreTold Told folders answers text × Takes text out out'

-- why it wasn't: the output stopped within it; or memory ran out, and nothing was printed
abbrev pub IsUntold : FolderTelling → List (Bor (List ℕ)) → SinkState → SinkState → ShowFault → Type 0
IsUntold Told folders out out' show.Write =
    (answers : List FolderAnswer) × (text : List ℕ) × AreTold Told folders answers text × StopsIn text out out'
IsUntold Told folders out out' show.OutOfMemory = out' ≡ out
IsUntold Told folders out out' show.WrongColumns = ⊥
