-- Files, and how a text comes to one.
use Rattle.std.specs.Prelude.{◌≡◌, ℕ, List, [], ◌∷◌, Result, Ok, Err}
use Rattle.ira_event.specs.Sink.{SinkState, Takes, StopsIn}
use Rattle.ira_main_files.specs.declared.file_entry.FileEntry.{FileEntry}
use Rattle.ira_main_files.specs.declared.shelf_fault.ShelfFault.{ShelfFault}
use Rattle.ira_main_files.specs.declared.shelf_fault.ShelfFault.TheVariants.{Device}

-- a file: its name and its bytes
pub record File : Type 0 where
  pub name : List ℕ
  pub bytes : List ℕ

-- what comes of a name on a shelf. `text`: its file is read, and this is its text, or a fault comes of it. `entry`: it is
-- looked up, and leads to this
pub record Reading (S : Type 0) : Type 1 where
  pub text : S → List ℕ → Result (List ℕ) ShelfFault → Type 0
  pub entry : S → List ℕ → FileEntry → Type 0

-- what writing files does to a shelf. `file`: a text is written whole to a new file of a name, which isn't under its name
-- yet, or a fault comes of it. `keep`: such a file gets its name, or a fault comes of it
pub record Writing (S : Type 0) : Type 1 where
  pub Written : Type 0
  pub file : List ℕ → List ℕ → S → Result Written ShelfFault → S → Type 0
  pub keep : S → Written → Result (Unit {0}) ShelfFault → S → Type 0

-- a shelf was asked for a new file of this name: none was made; or it was, and stopped within the text; or it took the
-- whole text and was closed, and what came of that is the result
pub data WritesFile {S F W : Type 0} (creates : S → List ℕ → Result F ShelfFault → S → Type 0)
    (closes : S → F → Result W ShelfFault → S → Type 0) (state : F → SinkState)
    (name text : List ℕ) (old : S) (result : Result W ShelfFault) (new : S) : Type 0 where
  unmade : (fault : ShelfFault) → creates old name (Err fault) new → result ≡ Err fault
      → WritesFile creates closes state name text old result new
  stopped : (file file' : F) → creates old name (Ok file) new → StopsIn text (state file) (state file')
      → result ≡ Err Device → WritesFile creates closes state name text old result new
  closed : (file file' : F) (between : S) → creates old name (Ok file) between
      → Takes text (state file) (state file') → closes between file' result new
      → WritesFile creates closes state name text old result new

-- the writing of a shelf's calls
abbrev pub writing_by : {S F W : Type 0} → (S → List ℕ → Result F ShelfFault → S → Type 0)
    → (S → F → Result W ShelfFault → S → Type 0) → (S → W → Result (Unit {0}) ShelfFault → S → Type 0)
    → (F → SinkState) → Writing S
writing_by {W = W} creates closes keeps state =
    record { Written = W; file = WritesFile creates closes state; keep = keeps }

-- the text was written to a new file of this name, which got that name; or a fault came of it
pub data MakesFile {S : Type 0} (writes : Writing S) (name text : List ℕ) (old new : S)
    (result : Result (Unit {0}) ShelfFault) : Type 0 where
  unwritten : (fault : ShelfFault) → writes.file name text old (Err fault) new → result ≡ Err fault
      → MakesFile writes name text old new result
  written : (file : writes.Written) (between : S) → writes.file name text old (Ok file) between
      → writes.keep between file result new → MakesFile writes name text old new result

-- files get their names, one after the other
abbrev pub NamesAll : {S : Type 0} → (writes : Writing S) → List writes.Written → S → S → Type 0
NamesAll writes [] old new = new ≡ old
NamesAll {S} writes (file ∷ files) old new =
    (between : S) × writes.keep old file (Ok tt) between × NamesAll writes files between new
