-- The lines of the nodes' ends, one after the other.
use Rattle.std.proofs.Common.{◌≡◌, ℕ, zero, suc, ◌+◌, List, [], ◌∷◌, ◌++◌, drop, Some, sym, ap, subst, ◌∙◌, add-one}
use Rattle.std.specs.Prelude.{slice_get}
use Rattle.std.specs.List.{zip, flat_map}
use Rattle.std.proofs.lemmas.List.{append-nil}
use Rattle.ira_event.specs.Sink.{SinkState, Takes}
use Rattle.ira_event.proofs.Writing.{HasWritten}

drop-zip-suc : {A B : Type 0} (xs : List A) (ys : List B) (i : ℕ) (x : A) (y : B) → slice_get xs i ≡ Some x
    → slice_get ys i ≡ Some y → drop i (zip xs ys) ≡ (x, y) ∷ drop (suc i) (zip xs ys)
drop-zip-suc [] ys i x y p q = absurd cc
drop-zip-suc (a ∷ xs) [] i x y p q = absurd cc
drop-zip-suc (a ∷ xs) (b ∷ ys) zero x y p q =
    let a_is : a ≡ x = cc in
    let b_is : b ≡ y = cc in
    cc
drop-zip-suc (a ∷ xs) (b ∷ ys) (suc i) x y p q = drop-zip-suc xs ys i x y p q

-- the first of the pairs that are left
pub drop-zip : {A B : Type 0} (xs : List A) (ys : List B) (i : ℕ) (x : A) (y : B) → slice_get xs i ≡ Some x
    → slice_get ys i ≡ Some y → drop i (zip xs ys) ≡ (x, y) ∷ drop (i + 1) (zip xs ys)
drop-zip xs ys i x y p q = rw add-one (drop-zip-suc xs ys i x y p q)

-- the text of the first pair that is left, and then those of the others
pub next-text : {X : Type 0} (text : X → List ℕ) (line : List ℕ) (x : X) (xs others : List X) → line ≡ text x
    → xs ≡ x ∷ others → line ++ flat_map text others ≡ flat_map text xs
next-text text line x xs others is first =
    ap (λ w. w ++ flat_map text others) is ∙ ap (λ ys. flat_map text ys) (sym first)

-- nothing is left to write
pub HasWritten-whole : (text rest : List ℕ) (s t : SinkState) → rest ≡ [] → HasWritten text rest s t → Takes text s t
HasWritten-whole text rest s t none p =
    subst (λ (x : List ℕ). Takes x s t) (sym (append-nil p.front) ∙ ap (λ w. p.front ++ w) (sym none) ∙ p.parts) p.takes
