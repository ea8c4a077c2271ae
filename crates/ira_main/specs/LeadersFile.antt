-- The file of those who are to lead, where one is named.
use Rattle.std.specs.Prelude.{◌≡◌, ◌⊎◌, ◌==◌, ℕ, Bool, false, true, List, [], ◌∷◌, Option, Some, Ok}
use Rattle.std.specs.Borrow.{Bor}
use Rattle.std.specs.List.{list_any}
use Rattle.ira_main_cli.specs.declared.asked_leaders.AskedLeaders.{AskedLeaders}
use Rattle.ira_main_cli.specs.declared.asked_leaders.AskedLeaders.TheVariants.{File}
use Rattle.ira_main_cli.specs.declared.log_source.LogSource.{LogSource}
use Rattle.ira_main_cli.specs.declared.log_source.LogSource.TheVariants.{Files, Folder}
use Rattle.ira_main_files.specs.FileName.{name_in}
use Rattle.ira_main_files.specs.LeadersText.{AreLeaders, IsBadLine}
use Rattle.ira_main_files.specs.Shelf.{Reading}
use Rattle.ira_main.specs.FilesRead.{Stops}
use Rattle.ira_main.specs.SourceNames.{AreFileNames, IsLoneFolder}
use Rattle.ira_main.specs.declared.file_fault.FileFault.{FileFault}
use Rattle.ira_main.specs.declared.file_fault.FileFault.TheVariants.{NoPlaceInLine}

-- the logs come from this folder, or from no folder
abbrev pub ComesFromFolder : {S : Type 0} → Reading S → S → LogSource → Bor (List ℕ) → Type 0
ComesFromFolder reads shelf (Files words) folder = IsLoneFolder reads shelf words.items folder
ComesFromFolder reads shelf (Folder given) folder = given ≡ folder

abbrev pub ComesFromNoFolder : {S : Type 0} → Reading S → S → LogSource → Type 0
ComesFromNoFolder reads shelf (Files words) = AreFileNames reads shelf words.items
ComesFromNoFolder reads shelf (Folder given) = ⊥

-- whether a slash is in a name
abbrev pub has_slash : List ℕ → Bool
has_slash name = list_any (λ byte. byte == 47) name

-- a name without a slash is that of a file in the folder that the logs come from, if they come from one
abbrev pub IsLeadersFile : {S : Type 0} → Reading S → S → LogSource → List ℕ → List ℕ → Type 0
IsLeadersFile reads shelf source name file =
    ((has_slash name ≡ false) × (folder : Bor (List ℕ)) × ComesFromFolder reads shelf source folder
    × (file ≡ name_in folder.now name))
    ⊎ ((ComesFromNoFolder reads shelf source ⊎ (has_slash name ≡ true)) × (file ≡ name))

-- the file of leaders, if one is named, was read, and these are the places in it
abbrev pub HasLeadersIn : {S : Type 0} → Reading S → S → LogSource → Option AskedLeaders → List ℕ → Type 0
HasLeadersIn reads shelf source (Some (File name)) places =
    (file : List ℕ) × IsLeadersFile reads shelf source name.now file
    × (text : List ℕ) × reads.text shelf file (Ok text) × AreLeaders text places
HasLeadersIn reads shelf source named places = places ≡ []

-- why there are none: it can't be read, or a line of it is that of no place
abbrev pub IsNoLeaders : {A S : Type 0} → Reading S → S → LogSource → Option AskedLeaders → FileFault A → Type 0
IsNoLeaders reads shelf source (Some (File name)) fault =
    (file : List ℕ) × IsLeadersFile reads shelf source name.now file
    × (Stops reads shelf (file ∷ []) fault
    ⊎ ((text : List ℕ) × (line : ℕ) × reads.text shelf file (Ok text) × IsBadLine text line
    × (fault ≡ NoPlaceInLine line file)))
IsNoLeaders reads shelf source named fault = ⊥
