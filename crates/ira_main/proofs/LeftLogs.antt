-- What the files of logs left, by the places of these.
use Rattle.std.proofs.Common.{◌≡◌, ◌∙◌, ◌<◌, ◌+◌, ◌≤◌, ◌∷◌, ◌++◌, ℕ, List, [], None, Ok, Err, Result, Some, ap, arith}
use Rattle.std.proofs.Common.{inl, inr, length, subst, sym, take}
use Rattle.std.proofs.lemmas.List.{take_all}
use Rattle.std.proofs.lemmas.List.FromFn.{get_or-enumerate_from, length-enumerate_from}
use Rattle.std.proofs.lemmas.Option.{slice_get-get_or}
use Rattle.std.specs.List.{enumerate_from}
use Rattle.std.specs.Prelude.{◌↔◌, slice_get, slice_index_or}
use Rattle.ira_main_files.specs.Shelf.{Reading}
use Rattle.ira_main_files.specs.declared.shelf_fault.ShelfFault.{ShelfFault}
use Rattle.ira_main_files.specs.declared.shelf_fault.ShelfFault.TheVariants.{Device, NotFound, OutOfMemory}
use Rattle.ira_main.proofs.FilesRead.{gathers_next, gathers_to}
use Rattle.ira_main.specs.FilesRead.{CannotRead}
use Rattle.ira_main.specs.LeftFiles.{LeaveTexts, LeavesNoText, LeavesText, left_by, left_text}

-- what a file left is the same where its log may be lost for another reason
module _ {S : Type 0} (reads : Reading S) (shelf : S) (name : List ℕ) (Lost Other : Type 0) (same : Lost ↔ Other) where
  pub left_as : (r : Result (List ℕ) ShelfFault) → left_text reads Lost shelf name r → left_text reads Other shelf name r
  left_as (Ok text) (inl read) = inl read
  left_as (Ok text) (inr (lost, none, is)) = inr (same.0 lost, none, is)
  left_as (Err NotFound) (kept, none) = (λ other. kept (same.1 other), none)
  left_as (Err Device) is = is
  left_as (Err OutOfMemory) is = is

  pub unleft_as : CannotRead (left_by reads Lost) shelf name → CannotRead (left_by reads Other) shelf name
  unleft_as (inl is) = inl is
  unleft_as (inr is) = inr (left_as (Err NotFound) is)

-- the log at a place, with its place
placed_at : (names : List (List ℕ)) (i : ℕ) (name : List ℕ) → name ≡ slice_index_or names i name → i < length names
    → slice_get (enumerate_from 0 names) i ≡ Some (i, name)
placed_at names i name is lt =
    let zero : 0 + i ≡ i = omega arith in
    let within : i < length (enumerate_from 0 names) = omega (arith, length-enumerate_from 0 names, lt) in
    subst (λ (n : List ℕ). slice_get (enumerate_from 0 names) i ≡ Some (i, n)) (sym is)
    (subst (λ (k : ℕ). slice_get (enumerate_from 0 names) i ≡ Some (k, slice_index_or names i name)) zero
    (slice_get-get_or (enumerate_from 0 names) i (0, name) within
    ∙ ap (λ (at : ℕ × List ℕ). Some at) (get_or-enumerate_from 0 names i (0, name) lt)))

module _ {S : Type 0} (reads : Reading S) (Lost : ℕ → Type 0) (shelf : S) (names : List (List ℕ)) (i : ℕ)
    (name : List ℕ) (is_name : name ≡ slice_index_or names i name) (texts : List (List ℕ)) (lt : i < length names)
    (before : LeaveTexts reads Lost shelf (take i (enumerate_from 0 names)) texts None) where
  -- the files of the logs before a place left texts, and so did that one
  pub leaves_next : (text : List ℕ) → LeavesText reads Lost shelf (i, name) text
      → LeaveTexts reads Lost shelf (take (i + 1) (enumerate_from 0 names)) (texts ++ text ∷ []) None
  leaves_next text is = gathers_next (LeavesText reads Lost shelf) (LeavesNoText reads Lost shelf)
      (enumerate_from 0 names) texts i (i, name) text (placed_at names i name is_name lt) before is

  -- or that one left none
  pub leaves_to : LeavesNoText reads Lost shelf (i, name)
      → LeaveTexts reads Lost shelf (enumerate_from 0 names) texts (Some (i, name))
  leaves_to is = gathers_to (LeavesText reads Lost shelf) (LeavesNoText reads Lost shelf)
      (enumerate_from 0 names) texts i (i, name) (placed_at names i name is_name lt) before is

-- these are all
pub leave_all : {S : Type 0} (reads : Reading S) (Lost : ℕ → Type 0) (shelf : S) (names : List (List ℕ)) (i : ℕ)
    (texts : List (List ℕ)) → length names ≤ i → LeaveTexts reads Lost shelf (take i (enumerate_from 0 names)) texts None
    → LeaveTexts reads Lost shelf (enumerate_from 0 names) texts None
leave_all reads Lost shelf names i texts most are =
    subst (λ (ns : List (ℕ × List ℕ)). LeaveTexts reads Lost shelf ns texts None)
    (take_all i (enumerate_from 0 names) (omega (arith, length-enumerate_from 0 names, most))) are
