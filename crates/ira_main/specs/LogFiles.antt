-- How the logs of a ring come to files.
use Rattle.std.specs.Prelude.{◌≡◌, ◌⊎◌, ℕ, List, [], ◌∷◌, ◌++◌, Ok, Err, length}
use Rattle.std.specs.Borrow.{Bor}
use Rattle.ira_event.specs.Log.{Log}
use Rattle.ira_event.specs.LogText.{log_text}
use Rattle.ira_main_files.specs.FileName.{log_name}
use Rattle.ira_main_files.specs.Shelf.{NamesAll, Writing}
use Rattle.ira_main_files.specs.declared.shelf_fault.ShelfFault.{ShelfFault}
use Rattle.ira_main_files.specs.declared.shelf_fault.ShelfFault.TheVariants.{OutOfMemory}
use Rattle.ira_main.specs.ProgramFault.{write_log_fault}
use Rattle.ira_main.specs.declared.program_fault.ProgramFault.{ProgramFault}
use Rattle.ira_main.specs.declared.program_fault.ProgramFault.TheVariants as fault

-- the text of each log was written whole to a new file for its place in this folder, one after the other; these are the
-- files
abbrev pub DraftsLogs : {S : Type 0} → (writes : Writing S) → List ℕ → List Log → List writes.Written → S → S → Type 0
DraftsLogs writes folder [] files old new = (files ≡ []) × (new ≡ old)
DraftsLogs {S} writes folder (log ∷ logs) files old new =
    (file : writes.Written) × (rest : List writes.Written) × (between : S) × (files ≡ file ∷ rest)
    × writes.file (log_name folder log.place) (log_text log) old (Ok file) between
    × DraftsLogs writes folder logs rest between new

-- the text of each log was written whole to a new file for its place in this folder, and then these files got their names
pub record WritesLogs {S : Type 0} (writes : Writing S) (folder : List ℕ) (logs : List Log) (old new : S) : Type 0 where
  pub files : List writes.Written
  pub between : S
  pub drafted : DraftsLogs writes folder logs files old between
  pub named : NamesAll writes files between new

-- the logs before one were written, and that one wasn't, or there was no memory for the name of its file: no file got its
-- name
pub record StopsDrafting {A S : Type 0} (writes : Writing S) (folder : Bor (List ℕ)) (logs : List Log)
    (old new : S) (f : ProgramFault A) : Type 0 where
  pub front : List Log
  pub log : Log
  pub back : List Log
  pub parts : front ++ log ∷ back ≡ logs
  pub files : List writes.Written
  pub between : S
  pub drafted : DraftsLogs writes folder.now front files old between
  pub why : ShelfFault
  pub undrafted : writes.file (log_name folder.now log.place) (log_text log) between (Err why) new
      ⊎ ((new ≡ between) × (why ≡ OutOfMemory))
  pub told : f ≡ write_log_fault folder log.place why

-- the files before that of a place got their names, and that one didn't
pub record StopsNaming {A S : Type 0} (writes : Writing S) (folder : Bor (List ℕ)) (files : List writes.Written)
    (old new : S) (f : ProgramFault A) : Type 0 where
  pub front : List writes.Written
  pub file : writes.Written
  pub back : List writes.Written
  pub parts : front ++ file ∷ back ≡ files
  pub between : S
  pub named : NamesAll writes front old between
  pub why : ShelfFault
  pub unnamed : writes.keep between file (Err why) new
  pub told : f ≡ write_log_fault folder (length front) why

-- why the logs weren't all written: there was no memory for the list of their files; or one wasn't written, and then all
-- old files have their names; or all were, and one didn't get its name
pub data StopsInLogs {A S : Type 0} (writes : Writing S) (folder : Bor (List ℕ)) (logs : List Log) (old new : S)
    (f : ProgramFault A) : Type 0 where
  no_room : new ≡ old → f ≡ fault.OutOfMemory → StopsInLogs writes folder logs old new f
  undrafted : StopsDrafting writes folder logs old new f → StopsInLogs writes folder logs old new f
  unnamed : (files : List writes.Written) (between : S) → DraftsLogs writes folder.now logs files old between
      → StopsNaming writes folder files between new f → StopsInLogs writes folder logs old new f
