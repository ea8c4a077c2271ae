-- Files that are read in turn, and others after them.
use Rattle.std.proofs.Common.{◌≡◌, ℕ, suc, ◌+◌, List, [], ◌∷◌, ◌++◌, Err, None, Ok, Option, Result, Some, ap, append-nil}
use Rattle.std.proofs.Common.{drop, length, refl, slice_get, subst, take}
use Rattle.ira_audit.proofs.LogTexts.{next_taken}
use Rattle.ira_event.specs.declared.out_of_memory.OutOfMemory.{OutOfMemory}
use Rattle.ira_main_files.specs.Shelf.{Reading}
use Rattle.ira_main.proofs.PartsAt.{parts_at}
use Rattle.ira_main.specs.FilesRead.{CannotRead, Gathers, Gives, ReadsFiles, Stops}
use Rattle.ira_main.specs.declared.file_fault.FileFault.{FileFault}

-- what is so of a value, and of a fault in its place
pub gives_weaker : {T A : Type 0} {P Q : T → Type 0} {F G : FileFault A → Type 0}
    (r : Result (Result T (FileFault A)) OutOfMemory) → ((t : T) → P t → Q t)
    → ((fault : FileFault A) → F fault → G fault) → Gives r P F → Gives r Q G
gives_weaker (Ok (Ok t)) value why is = value t is
gives_weaker (Ok (Err fault)) value why is = why fault is
gives_weaker (Err full) value why is = tt

module _ {X : Type 0} (GivesText : X → List ℕ → Type 0) (Fails : X → Type 0) where
  -- these gave texts, and those after them up to one that fails, or all
  pub gathers_more : (xs : List X) (texts : List (List ℕ)) (more : List X) (others : List (List ℕ)) (failed : Option X)
      → Gathers GivesText Fails xs texts None → Gathers GivesText Fails more others failed
      → Gathers GivesText Fails (xs ++ more) (texts ++ others) failed
  gathers_more [] [] more others failed read rest = rest
  gathers_more [] (t ∷ ts) more others failed read rest = absurd read
  gathers_more (x ∷ xs) [] more others failed read rest = absurd read
  gathers_more (x ∷ xs) (t ∷ ts) more others failed read rest =
      (read.0, gathers_more xs ts more others failed read.1 rest)

  -- of what comes after one that fails nothing counts
  pub gathers_front : (xs : List X) (texts : List (List ℕ)) (more : List X) (failed : X)
      → Gathers GivesText Fails xs texts (Some failed) → Gathers GivesText Fails (xs ++ more) texts (Some failed)
  gathers_front [] [] more failed read = absurd read
  gathers_front [] (t ∷ ts) more failed read = absurd read
  gathers_front (x ∷ xs) [] more failed read = read
  gathers_front (x ∷ xs) (t ∷ ts) more failed read = (read.0, gathers_front xs ts more failed read.1)

  -- those before an index gave texts, and the one there
  pub gathers_next : (xs : List X) (texts : List (List ℕ)) (i : ℕ) (x : X) (text : List ℕ) → slice_get xs i ≡ Some x
      → Gathers GivesText Fails (take i xs) texts None → GivesText x text
      → Gathers GivesText Fails (take (i + 1) xs) (texts ++ text ∷ []) None
  gathers_next xs texts i x text at before gives =
      subst (λ (ys : List X). Gathers GivesText Fails ys (texts ++ text ∷ []) None) (next_taken xs i x at)
      (gathers_more (take i xs) texts (x ∷ []) (text ∷ []) None before (gives, tt))

  -- those before an index gave texts, and the one there fails
  pub gathers_to : (xs : List X) (texts : List (List ℕ)) (i : ℕ) (x : X) → slice_get xs i ≡ Some x
      → Gathers GivesText Fails (take i xs) texts None → Fails x → Gathers GivesText Fails xs texts (Some x)
  gathers_to xs texts i x at before fails =
      subst (λ (ys : List X). Gathers GivesText Fails ys texts (Some x)) (parts_at xs i x at)
      (subst (λ (ts : List (List ℕ)). Gathers GivesText Fails (take i xs ++ x ∷ drop (i + 1) xs) ts (Some x)) (append-nil texts)
      (gathers_more (take i xs) texts (x ∷ drop (i + 1) xs) [] (Some x) before (refl, fails)))

  -- there are as many texts
  pub gathers_many : (xs : List X) (texts : List (List ℕ)) → Gathers GivesText Fails xs texts None → length texts ≡ length xs
  gathers_many [] [] read = refl
  gathers_many [] (t ∷ ts) read = absurd read
  gathers_many (x ∷ xs) [] read = absurd read
  gathers_many (x ∷ xs) (t ∷ ts) read = ap suc (gathers_many xs ts read.1)

module _ {S : Type 0} (reads : Reading S) (shelf : S) where
  pub reads_more : (names texts more others : List (List ℕ)) (unread : Option (List ℕ))
      → ReadsFiles reads shelf names texts None → ReadsFiles reads shelf more others unread
      → ReadsFiles reads shelf (names ++ more) (texts ++ others) unread
  reads_more = gathers_more (λ name text. reads.text shelf name (Ok text)) (CannotRead reads shelf)

  pub reads_next : (names texts : List (List ℕ)) (i : ℕ) (name text : List ℕ) → slice_get names i ≡ Some name
      → ReadsFiles reads shelf (take i names) texts None → reads.text shelf name (Ok text)
      → ReadsFiles reads shelf (take (i + 1) names) (texts ++ text ∷ []) None
  reads_next = gathers_next (λ name text. reads.text shelf name (Ok text)) (CannotRead reads shelf)

  pub reads_to : (names texts : List (List ℕ)) (i : ℕ) (name : List ℕ) → slice_get names i ≡ Some name
      → ReadsFiles reads shelf (take i names) texts None → CannotRead reads shelf name
      → ReadsFiles reads shelf names texts (Some name)
  reads_to = gathers_to (λ name text. reads.text shelf name (Ok text)) (CannotRead reads shelf)

  pub reads_many : (names texts : List (List ℕ)) → ReadsFiles reads shelf names texts None → length texts ≡ length names
  reads_many = gathers_many (λ name text. reads.text shelf name (Ok text)) (CannotRead reads shelf)

  module _ {A : Type 0} (fault : FileFault A) where
    -- the fault of some files is one of these and those after them
    pub stops_front : (names more : List (List ℕ)) → Stops reads shelf names fault → Stops reads shelf (names ++ more) fault
    stops_front names more (texts, name, read, is) = (
      texts,
      name,
      gathers_front (λ name text. reads.text shelf name (Ok text)) (CannotRead reads shelf) names texts more name read,
      is,
    )

    -- the fault of some files after others that were read is one of all of them
    pub stops_back : (before texts names : List (List ℕ)) → ReadsFiles reads shelf before texts None
        → Stops reads shelf names fault → Stops reads shelf (before ++ names) fault
    stops_back before texts names read (others, name, stop, is) =
        (texts ++ others, name, reads_more before texts names others (Some name) read stop, is)
