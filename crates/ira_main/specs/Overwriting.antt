-- Files of the input that the logs of a ring, or a new file, would be written to.
use Rattle.std.specs.Prelude.{◌≡◌, ◌≢◌, ◌<◌, ℕ, All, List, ◌∷◌, Option, Some, None, codes, length, slice_get}
use Rattle.std.specs.Borrow.{Bor}
use Rattle.ira_event.specs.Limits.{MAX_NODES}
use Rattle.ira_main_files.specs.FileName.{log_name}
use Rattle.ira_main_files.specs.Shelf.{Reading}
use Rattle.ira_main_files.specs.declared.file_entry.FileEntry.{FileEntry}
use Rattle.ira_main_files.specs.declared.file_entry.FileEntry.TheVariants.{File}
use Rattle.ira_main_files.specs.declared.file_entry.FileId.{FileId}

-- two names lead to one file
abbrev pub IsSameFile : {S : Type 0} → Reading S → S → List ℕ → List ℕ → Type 0
IsSameFile reads shelf name other =
    (file : FileId) × reads.entry shelf name (File file) × reads.entry shelf other (File file)

-- the first leads to no file, or the second elsewhere
abbrev pub IsOtherFile : {S : Type 0} → Reading S → S → List ℕ → List ℕ → Type 0
IsOtherFile reads shelf name other = (entry : FileEntry) × reads.entry shelf name entry
    × ((file : FileId) → entry ≡ File file → (found : FileEntry) × reads.entry shelf other found × (found ≢ File file))

-- a new file of a name would be written over that of this one, which is one of these
pub record Replaces {S : Type 0} (reads : Reading S) (shelf : S) (written : List ℕ) (names : List (List ℕ)) (name : List ℕ)
    : Type 0 where
  pub index : ℕ
  pub named : slice_get names index ≡ Some name
  pub same : IsSameFile reads shelf written name

-- it would be written over none of them
abbrev pub ReplacesNone : {S : Type 0} → Reading S → S → List ℕ → List (List ℕ) → Type 0
ReplacesNone reads shelf written names = All (IsOtherFile reads shelf written) names

-- where there is a log for each of these names, one is written over the file of this one of them
pub record Overwrites {S : Type 0} (reads : Reading S) (shelf : S) (folder : List ℕ) (names : List (List ℕ))
    (name : List ℕ) : Type 0 where
  pub place : ℕ
  pub few : place < length names
  pub in_ring : place < MAX_NODES
  pub replaced : Replaces reads shelf (log_name folder place) names name

-- none is written over a file of these names
abbrev pub KeepsInput : {S : Type 0} → Reading S → S → List ℕ → List (List ℕ) → Type 0
KeepsInput reads shelf folder names =
    (place : ℕ) → place < length names → place < MAX_NODES → ReplacesNone reads shelf (log_name folder place) names

-- the names of the files that are read: the question's, if there is one, and the logs'
abbrev pub input_names : Option (Bor (List ℕ)) → List (List ℕ) → List (List ℕ)
input_names (Some question) logs = question.now ∷ logs
input_names None logs = logs

-- the new file, if there is one, and not the output in its place, would be written over none of these
abbrev pub KeepsFiles : {S : Type 0} → Reading S → S → Option (Bor (List ℕ)) → List (List ℕ) → Type 0
KeepsFiles reads shelf written names =
    (file : Bor (List ℕ)) → written ≡ Some file → file.now ≢ codes "-" → ReplacesNone reads shelf file.now names

-- it would be written over this one of these
abbrev pub ReplacesInput : {S : Type 0} → Reading S → S → Option (Bor (List ℕ)) → List (List ℕ) → List ℕ → Type 0
ReplacesInput reads shelf written names name =
    (file : Bor (List ℕ)) × (written ≡ Some file) × Replaces reads shelf file.now names name
