-- The names of the files that logs come from.
use Rattle.std.specs.Prelude.{◌≡◌, ◌≢◌, ◌<◌, ◌≤◌, ◌⊎◌, ⊤, ℕ, All, Contains, List, [], ◌∷◌, Ok, length, map}
use Rattle.std.specs.Borrow.{Bor}
use Rattle.std.specs.List.{range_with_len}
use Rattle.ira_event.specs.Limits.{MAX_TEXT}
use Rattle.ira_event.specs.LogTextFault.{BeginsWithHead, BeginsWithNoHead}
use Rattle.ira_event.specs.declared.log_head.LogHead.{LogHead}
use Rattle.ira_main_cli.specs.declared.log_source.LogSource.{LogSource}
use Rattle.ira_main_cli.specs.declared.log_source.LogSource.TheVariants.{Files, Folder}
use Rattle.ira_main_files.specs.FileName.{log_name}
use Rattle.ira_main_files.specs.Shelf.{Reading}
use Rattle.ira_main_files.specs.declared.file_entry.FileEntry.{FileEntry}
use Rattle.ira_main_files.specs.declared.file_entry.FileEntry.TheVariants as entry
use Rattle.ira_main.specs.FilesRead.{Stops}
use Rattle.ira_main.specs.declared.file_fault.FileFault.{FileFault}

-- how many logs the text of the first says that there are: as many as the ring of its head has nodes; this one alone
-- where it is too long or begins with no head
pub data SaysLogs (text : List ℕ) (number : ℕ) : Type 0 where
  of_head : (head : LogHead) (rest : List ℕ) → length text ≤ MAX_TEXT → BeginsWithHead text head rest
      → number ≡ head.nodes → SaysLogs text number
  alone : (MAX_TEXT < length text) ⊎ BeginsWithNoHead text → number ≡ 1 → SaysLogs text number

-- of the names that are given there is one alone, and it leads to a folder
abbrev pub IsLoneFolder : {S : Type 0} → Reading S → S → List (Bor (List ℕ)) → Bor (List ℕ) → Type 0
IsLoneFolder reads shelf words folder = (words ≡ folder ∷ []) × reads.entry shelf folder.now entry.Folder

-- or else these are taken as those of files
abbrev pub AreFileNames : {S : Type 0} → Reading S → S → List (Bor (List ℕ)) → Type 0
AreFileNames reads shelf words = (word : Bor (List ℕ)) → words ≡ word ∷ []
    → (found : FileEntry) × reads.entry shelf word.now found × (found ≢ entry.Folder)

-- each of these names leads to a folder
abbrev pub AreFolders : {S : Type 0} → Reading S → S → List (Bor (List ℕ)) → Type 0
AreFolders reads shelf names = All (λ name. reads.entry shelf name.now entry.Folder) names

-- or one of them doesn't
abbrev pub HasNoFolder : {S : Type 0} → Reading S → S → List (Bor (List ℕ)) → Type 0
HasNoFolder reads shelf names = (name : Bor (List ℕ)) × Contains names name
    × (found : FileEntry) × reads.entry shelf name.now found × (found ≢ entry.Folder)

-- these are the names that are given
abbrev pub AreGiven : LogSource → List (Bor (List ℕ)) → Type 0
AreGiven (Files words) names = words.items ≡ names
AreGiven (Folder folder) names = ⊥

-- the names that are given are several and lead to folders
pub record AreSeveralFolders {S : Type 0} (reads : Reading S) (shelf : S) (source : LogSource)
    (folders : List (Bor (List ℕ))) : Type 0 where
  pub given : AreGiven source folders
  pub several : 2 ≤ length folders
  pub each : AreFolders reads shelf folders

-- the logs are those of one ring: one name is given at most, or one of them leads to no folder
abbrev pub IsOfOneRing : {S : Type 0} → Reading S → S → LogSource → Type 0
IsOfOneRing reads shelf (Files words) = (length words.items < 2) ⊎ HasNoFolder reads shelf words.items
IsOfOneRing reads shelf (Folder folder) = ⊤

-- there are so many logs in a folder, as the text says that was read of its first one
abbrev pub SaysLogsIn : {S : Type 0} → Reading S → S → Bor (List ℕ) → ℕ → Type 0
SaysLogsIn reads shelf folder number =
    (text : List ℕ) × reads.text shelf (log_name folder.now 0) (Ok text) × SaysLogs text number

-- the names of the first logs in a folder
abbrev pub names_in : List ℕ → ℕ → List (List ℕ)
names_in folder number = map (λ place. log_name folder place) (range_with_len 0 number)

-- the names of the logs in a folder
abbrev pub HasFolderNames : {S : Type 0} → Reading S → S → Bor (List ℕ) → List (List ℕ) → Type 0
HasFolderNames reads shelf folder names =
    (number : ℕ) × SaysLogsIn reads shelf folder number × (names ≡ names_in folder.now number)

-- the names of the logs of a source: those that are given, or those in a folder
abbrev pub HasNames : {S : Type 0} → Reading S → S → LogSource → List (List ℕ) → Type 0
HasNames reads shelf (Files words) names =
    (AreFileNames reads shelf words.items × (names ≡ map (λ word. word.now) words.items))
    ⊎ ((folder : Bor (List ℕ)) × IsLoneFolder reads shelf words.items folder × HasFolderNames reads shelf folder names)
HasNames reads shelf (Folder folder) names = HasFolderNames reads shelf folder names

-- why there are none: the first log of a folder can't be read
abbrev pub IsNamesFault : {A S : Type 0} → Reading S → S → LogSource → FileFault A → Type 0
IsNamesFault reads shelf (Files words) fault = (folder : Bor (List ℕ)) × IsLoneFolder reads shelf words.items folder
    × Stops reads shelf (log_name folder.now 0 ∷ []) fault
IsNamesFault reads shelf (Folder folder) fault = Stops reads shelf (log_name folder.now 0 ∷ []) fault
