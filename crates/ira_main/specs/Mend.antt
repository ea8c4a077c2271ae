-- What comes of the files of a command that mends logs.
use Rattle.std.specs.Prelude.{◌≡◌, ◌⊎◌, ℕ, Bool, List, None, option_map}
use Rattle.std.specs.List.{enumerate_from}
use Rattle.ira_commands.specs.Mend.{MendsTexts}
use Rattle.ira_commands.specs.Reply.{Reply}
use Rattle.ira_main_cli.specs.declared.mend_request.MendRequest.{MendRequest}
use Rattle.ira_main_files.specs.Shelf.{Reading}
use Rattle.ira_main.specs.LeftFiles.{HasLeftNames, IsLeftFault, IsLeftNamesFault, LeaveTexts, MayBeLost}
use Rattle.ira_main.specs.Overwriting.{KeepsInput, Overwrites}
use Rattle.ira_main.specs.declared.file_fault.FileFault.{FileFault}
use Rattle.ira_main.specs.declared.file_fault.FileFault.TheVariants.{WouldOverwrite}

-- the logs of these places may be lost
abbrev pub is_lost : MendRequest → Bool → ℕ → Type 0
is_lost mend in_folder place = MayBeLost (option_map (λ places. places.items) mend.lost) in_folder place

-- no log would be written over a file of the input, and this reply comes of what the files that are named left
pub record MendsLogs {S : Type 0} (reads : Reading S) (mend : MendRequest) (shelf : S) (reply : Reply) : Type 0 where
  pub in_folder : Bool
  pub names : List (List ℕ)
  pub names_are : HasLeftNames reads shelf mend.logs in_folder names
  pub kept : KeepsInput reads shelf mend.folder.now names
  pub texts : List (List ℕ)
  pub left : LeaveTexts reads (is_lost mend in_folder) shelf (enumerate_from 0 names) texts None
  pub reply_is : MendsTexts mend.is_initiator texts reply

-- why nothing comes of them: there are no names; or a log would be written over this file of the input; or no texts were had
abbrev pub IsUnmended : {A S : Type 0} → Reading S → MendRequest → S → FileFault A → Type 0
IsUnmended reads mend shelf fault =
    IsLeftNamesFault reads shelf mend.logs fault
    ⊎ ((in_folder : Bool) × (names : List (List ℕ)) × HasLeftNames reads shelf mend.logs in_folder names
    × (((name : List ℕ) × Overwrites reads shelf mend.folder.now names name × (fault ≡ WouldOverwrite name))
    ⊎ IsLeftFault reads (is_lost mend in_folder) shelf names fault))
