-- The first file of a name, and what is read of it.
use Rattle.std.proofs.Common.{◌≡◌, ◌≢◌, ℕ, ◌+◌, ◌<◌, ◌≤◌, inl, inr, false, List, [], ◌∷◌, ◌++◌, length, refl, sym, ◌∙◌}
use Rattle.std.proofs.Common.{ap, arith, subst, drop, get_or, take, map, filter_map, Option, Some, None, Result, Ok}
use Rattle.std.proofs.Common.{Err, All, IfOk, MatchResult, append-nil, append_assoc}
use Rattle.std.specs.List.{cons_option}
use Rattle.std.specs.Prelude.{⊤}
use Rattle.std.proofs.lemmas.List.{drop_more, get_or-map, length-map, take-append-drop, take_all, take_at, take_more}
use Rattle.std.proofs.lemmas.List.Elements.{All-append, All-cons, All-more, All-nil, filter_map-append}
use Rattle.std.specs.Io.KnownBytes.{Consumes, IsAtEnd}
use Rattle.std.proofs.lemmas.Bool.{cases_lt}
use Rattle.ira_event.specs.Limits.{MAX_TEXT}
use Rattle.ira_main_files.specs.CountingReader.{Reads}
use Rattle.ira_main_files.specs.ReadText.{IsReadTo}
use Rattle.ira_main_files.specs.Shelf.{File}
use Rattle.ira_main_files.specs.declared.shelf_fault.ShelfFault.{ShelfFault}
use Rattle.test_main.specs.MemoryFiles.{HasFirst}

-- what stands before, at and after a place
parts_at : {X : Type 0} (xs : List X) (i : ℕ) (d : X) → i < length xs
    → xs ≡ take i xs ++ get_or xs i d ∷ drop (i + 1) xs
parts_at {X} xs i d l = sym (take-append-drop i xs) ∙ ap (λ (r : List X). take i xs ++ r) (drop_more xs i d l)

module _ {X : Type 0} (h : X → File) (xs : List X) (i : ℕ) (d : X) (name : List ℕ) (l : i < length xs)
    (none : All (λ file. file.name ≢ name) (take i (map h xs))) where
  at_i : get_or (map h xs) i (h d) ≡ h (get_or xs i d)
  at_i = get_or-map h xs i d (h d) l

  within : i < length (map h xs)
  within = omega (arith, l, length-map xs h)

  pub first_of_all : (bytes : List ℕ) → h (get_or xs i d) ≡ record { name = name; bytes = bytes }
      → HasFirst (map h xs) name bytes
  first_of_all bytes is = record {
    before = take i (map h xs);
    after = drop (i + 1) (map h xs);
    parts = parts_at (map h xs) i (h d) within
        ∙ ap (λ (file : File). take i (map h xs) ++ file ∷ drop (i + 1) (map h xs)) (at_i ∙ is);
    others = none;
  }

  pub none_of_more : (h (get_or xs i d)).name ≢ name → All (λ file. file.name ≢ name) (take (i + 1) (map h xs))
  none_of_more other = All-more (λ file. file.name ≢ name) (map h xs) i (h d) within none (rw at_i other)

-- the first of a list is the first after files of other names
pub first_after : (a b : List File) (name bytes : List ℕ) → All (λ file. file.name ≢ name) a → HasFirst b name bytes
    → HasFirst (a ++ b) name bytes
first_after a b name bytes none h = record {
  before = a ++ h.before;
  after = h.after;
  parts =
      ap (λ (files : List File). a ++ files) h.parts
      ∙ sym (append_assoc a h.before (record { name = name; bytes = bytes } ∷ h.after));
  others = All-append (λ file. file.name ≢ name) a h.before none h.others;
}

-- what was read of known bytes
read_of : (limit : ℕ) (bytes text : List ℕ) (left : Option (List ℕ)) → Consumes (Some bytes) left text
    → length text ≤ limit → (length text < limit → IsAtEnd left) → text ≡ take limit bytes
read_of limit bytes text None parts size end = absurd parts
read_of limit bytes text (Some rest) parts size end = elim (cases_lt (length text) limit) [
  | inl short ↦
      let none : rest ≡ [] = end short in
      let all : bytes ≡ text = parts ∙ ap (λ (r : List ℕ). text ++ r) none ∙ append-nil text in
      sym (take_all limit bytes (omega (arith, short, ap (λ (bs : List ℕ). length bs) all)) ∙ all)
  | inr full ↦ sym (ap (take limit) parts ∙ take_at text rest limit (omega (arith, size, full)))
]

-- where a file was read to its end or the limit, its first bytes are the text
pub file_read : (files : List File) (name bytes text : List ℕ) (old new : Reads) (r : Result (Unit {0}) ShelfFault)
    → HasFirst files name bytes → old ≡ record { left = Some bytes; reads = 0; is_over = false; has_failed = false }
    → IfOk r (λ _. IsReadTo (MAX_TEXT + 1) old new text)
    → MatchResult r (λ _. (bs : List ℕ) × (text ≡ take (MAX_TEXT + 1) bs) × HasFirst files name bs) (λ _. ⊤)
file_read files name bytes text old new (Ok _) first is read =
    let fresh : old.left ≡ Some bytes = ap (λ (r : Reads). r.left) is in
    let going : old.is_over ≡ false = ap (λ (r : Reads). r.is_over) is in
    let gave : Consumes (Some bytes) new.left text = subst (λ o. Consumes o new.left text) fresh read.bytes in
    (bytes, read_of (MAX_TEXT + 1) bytes text new.left gave read.size (read.end going), first)
file_read files name bytes text old new (Err _) first is read = tt
