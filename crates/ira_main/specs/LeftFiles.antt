-- What a crash left of the files of a ring's logs.
use Rattle.std.specs.Prelude.{◌≡◌, ◌<◌, ◌⊎◌, ⊤, ℕ, Bool, true, false, Contains, List, [], None, Option, Some, Result, Ok, Err, map}
use Rattle.std.specs.Borrow.{Bor}
use Rattle.std.specs.List.{All, enumerate_from}
use Rattle.ira_event.specs.Limits.{MAX_NODES}
use Rattle.ira_mend.specs.RecordedLogs.{HasRecorded, IsShort}
use Rattle.ira_mend.specs.declared.recorded_log.RecordedLog.{RecordedLog}
use Rattle.ira_main_cli.specs.declared.log_source.LogSource.{LogSource}
use Rattle.ira_main_cli.specs.declared.log_source.LogSource.TheVariants as source
use Rattle.ira_main_files.specs.FileName.{log_name}
use Rattle.ira_main_files.specs.Shelf.{Reading}
use Rattle.ira_main_files.specs.declared.shelf_fault.ShelfFault.{ShelfFault}
use Rattle.ira_main_files.specs.declared.shelf_fault.ShelfFault.TheVariants.{NotFound}
use Rattle.ira_main.specs.FilesRead.{CannotRead, Gathers, Stops}
use Rattle.ira_main.specs.SourceNames.{AreFileNames, IsLoneFolder, SaysLogs, names_in}
use Rattle.ira_main.specs.declared.file_fault.FileFault.{FileFault}
use Rattle.ira_main.specs.declared.file_fault.FileFault.TheVariants.{Unread}

-- the log of this place may be lost: it is one of those that are named, or, where none are, one in a folder
abbrev pub MayBeLost : Option (List ℕ) → Bool → ℕ → Type 0
MayBeLost (Some places) in_folder place = Contains places place
MayBeLost None in_folder place = in_folder ≡ true

-- what the file of a name left: its text, or no bytes where there is no such file and its log may be lost
abbrev pub left_text : {S : Type 0} → Reading S → Type 0 → S → List ℕ → Result (List ℕ) ShelfFault → Type 0
left_text reads Lost shelf name (Ok text) =
    reads.text shelf name (Ok text) ⊎ (Lost × reads.text shelf name (Err NotFound) × (text ≡ []))
left_text reads Lost shelf name (Err NotFound) = ¬ Lost × reads.text shelf name (Err NotFound)
left_text reads Lost shelf name (Err why) = reads.text shelf name (Err why)

-- the same of each name
abbrev pub left_by : {S : Type 0} → Reading S → Type 0 → Reading S
left_by reads Lost = record { text = left_text reads Lost; entry = reads.entry }

-- the file of the log at this place in a folder left a text which says that there are so many logs
abbrev pub LeavesNumber : {S : Type 0} → Reading S → S → List ℕ → ℕ → ℕ → Type 0
LeavesNumber reads shelf folder place number =
    (text : List ℕ) × (left_by reads ⊤).text shelf (log_name folder place) (Ok text) × SaysLogs text number

-- how many logs were in a folder: as many as the first text says of which a whole head is left, or one
pub data SaysLeft {S : Type 0} (reads : Reading S) (shelf : S) (folder : List ℕ) (number : ℕ) : Type 0 where
  said : (place : ℕ) → place < MAX_NODES → LeavesNumber reads shelf folder place number → 1 < number
      → ((i : ℕ) → i < place → LeavesNumber reads shelf folder i 1) → SaysLeft reads shelf folder number
  none : number ≡ 1 → ((i : ℕ) → i < MAX_NODES → LeavesNumber reads shelf folder i 1)
      → SaysLeft reads shelf folder number

-- the names of the files of as many logs as were in a folder
abbrev pub HasLeftInFolder : {S : Type 0} → Reading S → S → Bor (List ℕ) → List (List ℕ) → Type 0
HasLeftInFolder reads shelf folder names =
    (number : ℕ) × SaysLeft reads shelf folder.now number × (names ≡ names_in folder.now number)

-- the names of the files of the logs: those that are given, or those in a folder
abbrev pub HasLeftNames : {S : Type 0} → Reading S → S → LogSource → Bool → List (List ℕ) → Type 0
HasLeftNames reads shelf (source.Files words) false names =
    AreFileNames reads shelf words.items × (names ≡ map (λ word. word.now) words.items)
HasLeftNames reads shelf (source.Files words) true names =
    (folder : Bor (List ℕ)) × IsLoneFolder reads shelf words.items folder × HasLeftInFolder reads shelf folder names
HasLeftNames reads shelf (source.Folder folder) in_folder names =
    HasLeftInFolder reads shelf folder names × (in_folder ≡ true)

-- why there are none of a folder: a file of it is there and can't be read
abbrev pub IsLeftFolderFault : {A S : Type 0} → Reading S → S → List ℕ → FileFault A → Type 0
IsLeftFolderFault reads shelf folder fault = (place : ℕ) × (place < MAX_NODES)
    × CannotRead (left_by reads ⊤) shelf (log_name folder place) × (fault ≡ Unread (log_name folder place))

-- why there are none
abbrev pub IsLeftNamesFault : {A S : Type 0} → Reading S → S → LogSource → FileFault A → Type 0
IsLeftNamesFault reads shelf (source.Files words) fault =
    (folder : Bor (List ℕ)) × IsLoneFolder reads shelf words.items folder × IsLeftFolderFault reads shelf folder.now fault
IsLeftNamesFault reads shelf (source.Folder folder) fault = IsLeftFolderFault reads shelf folder.now fault

-- the file of the log at this place left this text
abbrev pub LeavesText : {S : Type 0} → Reading S → (ℕ → Type 0) → S → ℕ × List ℕ → List ℕ → Type 0
LeavesText reads Lost shelf at text = (left_by reads (Lost at.0)).text shelf at.1 (Ok text)

-- it is there and can't be read, or isn't and its log isn't lost
abbrev pub LeavesNoText : {S : Type 0} → Reading S → (ℕ → Type 0) → S → ℕ × List ℕ → Type 0
LeavesNoText reads Lost shelf at = CannotRead (left_by reads (Lost at.0)) shelf at.1

-- the files of the logs at these places left these texts, up to the first that left none
abbrev pub LeaveTexts : {S : Type 0} → Reading S → (ℕ → Type 0) → S → List (ℕ × List ℕ) → List (List ℕ)
    → Option (ℕ × List ℕ) → Type 0
LeaveTexts reads Lost shelf names texts failed =
    Gathers (LeavesText reads Lost shelf) (LeavesNoText reads Lost shelf) names texts failed

-- these left texts, which were taken
abbrev pub HasLeftFiles : {A : Type 0} {S : Type 0} → Reading S → (ℕ → Type 0) → S → List (ℕ × List ℕ)
    → List (RecordedLog A) → Type 0
HasLeftFiles reads Lost shelf names recorded =
    (texts : List (List ℕ)) × HasRecorded recorded texts × LeaveTexts reads Lost shelf names texts None

-- what is left of the files of these names is short texts, and they aren't all there to be read
pub record IsLost {A S : Type 0} (reads : Reading S) (Lost : ℕ → Type 0) (shelf : S) (names : List (List ℕ))
    (fault : FileFault A) : Type 0 where
  pub texts : List (List ℕ)
  pub given : LeaveTexts reads Lost shelf (enumerate_from 0 names) texts None
  pub short : All IsShort texts
  pub why : Stops reads shelf names fault

-- why nothing is taken: a file left no text that had to, or no more than short texts are left
abbrev pub IsLeftFault : {A S : Type 0} → Reading S → (ℕ → Type 0) → S → List (List ℕ) → FileFault A → Type 0
IsLeftFault reads Lost shelf names fault =
    ((texts : List (List ℕ)) × (at : ℕ × List ℕ) × LeaveTexts reads Lost shelf (enumerate_from 0 names) texts (Some at)
    × (fault ≡ Unread at.1))
    ⊎ IsLost reads Lost shelf names fault
