-- How the texts of files are read.
use Rattle.std.specs.Prelude.{◌≡◌, ◌⊎◌, ◌≤◌, ⊤, ℕ, Bool, true, List, [], ◌∷◌, None, Option, Some, Result, Ok, Err, IfOk, MatchResult}
use Rattle.std.specs.Prelude.{length, map, take}
use Rattle.ira_event.specs.declared.out_of_memory.OutOfMemory.{OutOfMemory}
use Rattle.ira_audit.specs.RingAudit.{HasTaken}
use Rattle.ira_main_files.specs.Shelf.{Reading}
use Rattle.ira_main_files.specs.declared.shelf_fault.ShelfFault.TheVariants.{Device, NotFound}
use Rattle.ira_main.specs.declared.file_fault.FileFault.{FileFault}
use Rattle.ira_main.specs.declared.file_fault.FileFault.TheVariants.{Unread}
use Rattle.ira_main.specs.declared.read_files.FoundLogs.{FoundLogs}

-- each of these gave the text at its place, up to the first that failed
abbrev pub Gathers : {X : Type 0} → (X → List ℕ → Type 0) → (X → Type 0) → List X → List (List ℕ) → Option X → Type 0
Gathers Gives Fails [] [] None = ⊤
Gathers Gives Fails (x ∷ xs) (text ∷ texts) failed = Gives x text × Gathers Gives Fails xs texts failed
Gathers Gives Fails (x ∷ xs) [] (Some failed) = (failed ≡ x) × Fails x
Gathers Gives Fails xs texts failed = ⊥

-- the file of this name can't be read
abbrev pub CannotRead : {S : Type 0} → Reading S → S → List ℕ → Type 0
CannotRead reads shelf name = reads.text shelf name (Err Device) ⊎ reads.text shelf name (Err NotFound)

-- the files of these names were read and gave these texts, up to the first that can't be, which has this name. Files after
-- it may have been read too, which changes nothing
abbrev pub ReadsFiles : {S : Type 0} → Reading S → S → List (List ℕ) → List (List ℕ) → Option (List ℕ) → Type 0
ReadsFiles reads shelf names texts unread =
    Gathers (λ name text. reads.text shelf name (Ok text)) (CannotRead reads shelf) names texts unread

-- there is such a value, or a fault of this kind in its place; or memory ran out
abbrev pub Gives : {T A : Type 0} → Result (Result T (FileFault A)) OutOfMemory → (T → Type 0) → (FileFault A → Type 0) → Type 0
Gives result IsValue IsWhy = IfOk result (λ found. MatchResult found IsValue IsWhy)

-- the first of these files that can't be read is named
abbrev pub Stops : {A S : Type 0} → Reading S → S → List (List ℕ) → FileFault A → Type 0
Stops reads shelf names fault =
    (texts : List (List ℕ)) × (name : List ℕ) × ReadsFiles reads shelf names texts (Some name) × (fault ≡ Unread name)

-- the texts were taken, and kept where that is asked for
abbrev pub HasFound : {A : Type 0} → Bool → FoundLogs A → List (List ℕ) → Type 0
HasFound keep found texts = HasTaken found.audit texts × (keep ≡ true → map (λ text. text.items) found.texts.items ≡ texts)

-- the files of these names were read, and their texts were taken
abbrev pub HasTakenFiles : {A S : Type 0} → Reading S → S → Bool → List (List ℕ) → FoundLogs A → Type 0
HasTakenFiles reads shelf keep names found =
    (texts : List (List ℕ)) × HasFound keep found texts × ReadsFiles reads shelf names texts None

-- so many of them were, the first ones
abbrev pub HasRead : {A S : Type 0} → Reading S → S → Bool → List (List ℕ) → ℕ → FoundLogs A → Type 0
HasRead reads shelf keep names n found = (n ≤ length names) × HasTakenFiles reads shelf keep (take n names) found
