-- What is left of a list at an index, and what is spelled out of it.
use Rattle.std.proofs.Common.{◌≡◌, ℕ, suc, ◌+◌, ◌-◌, ◌<◌, List, ◌∷◌, ◌++◌, drop, take, get_or, length, sym, ap, ◌∙◌}
use Rattle.std.proofs.Common.{arith}
use Rattle.std.proofs.Math.Seq.{drop-cons}
use Rattle.std.proofs.lemmas.List.{take_all, length-drop}
use Rattle.std.specs.List.{flat_map}

-- the element there, and then those after it
pub drop-at : {X : Type 0} (xs : List X) (i : ℕ) (x d : X) → i < length xs → x ≡ get_or xs i d
    → drop i xs ≡ x ∷ drop (i + 1) xs
drop-at xs i x d there is =
    let next : suc i ≡ i + 1 = omega arith in
    drop-cons xs i d there ∙ ap (λ y. y ∷ drop (suc i) xs) (sym is) ∙ ap (λ n. x ∷ drop n xs) next

-- the text of the element there, and then the texts of those after it
pub next_text : {X : Type 0} (f : X → List ℕ) (xs : List X) (i : ℕ) (x d : X) → i < length xs → x ≡ get_or xs i d
    → f x ++ flat_map f (drop (i + 1) xs) ≡ flat_map f (drop i xs)
next_text f xs i x d there is = ap (λ ys. flat_map f ys) (sym (drop-at xs i x d there is))

-- the slice that begins there
pub slice-from : {X : Type 0} (xs : List X) (i : ℕ) → take (length xs - i) (drop i xs) ≡ drop i xs
slice-from xs i = let rest = length-drop i xs in take_all (length xs - i) (drop i xs) (omega (arith, rest))
