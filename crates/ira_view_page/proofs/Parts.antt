-- Parts of a list, one after the other.
use Rattle.std.proofs.Common.{◌≡◌, ◌∙◌, ℕ, ◌+◌, ◌<◌, ◌≤◌, List, [], ◌∷◌, ◌++◌, Some, ap, get_or, length, subst, sym}
use Rattle.std.proofs.Common.{take}
use Rattle.std.specs.Prelude.{slice_get}
use Rattle.std.proofs.lemmas.List.{take_all, take_more}
use Rattle.std.proofs.lemmas.Option.{slice_get-get_or, slice_get_within}
use Rattle.ira_view_page.specs.Parts.{AreParts, more}

-- an element more, and its part
pub part_more : {X Y : Type 0} (IsPart : X → List Y → Type 0) (xs : List X) (i : ℕ) (x d : X) (ys part : List Y)
    → i < length xs → x ≡ get_or xs i d → AreParts IsPart (take i xs) ys → IsPart x part
    → AreParts IsPart (take (i + 1) xs) (ys ++ part)
part_more {X} {Y} IsPart xs i x d ys part here is so_far next =
    subst (λ (zs : List X). AreParts IsPart zs (ys ++ part))
    (ap (λ (y : X). take i xs ++ y ∷ []) is ∙ sym (take_more xs i d here)) (more (take i xs) x ys part so_far next)

-- the same of an element that is looked up, and of a list that is longer by the part
pub parts_more : {X Y : Type 0} (IsPart : X → List Y → Type 0) (xs : List X) (i : ℕ) (x : X) (ys part all : List Y)
    → slice_get xs i ≡ Some x → AreParts IsPart (take i xs) ys → IsPart x part → all ≡ ys ++ part
    → AreParts IsPart (take (i + 1) xs) all
parts_more {X} {Y} IsPart xs i x ys part all at before is same =
    let here : i < length xs = slice_get_within xs i x at in
    let read : slice_get xs i ≡ Some (get_or xs i x) = slice_get-get_or xs i x here in
    let value : x ≡ get_or xs i x = cc in
    subst (λ (zs : List Y). AreParts IsPart (take (i + 1) xs) zs) (sym same)
    (part_more IsPart xs i x x ys part here value before is)

-- a part for each element
pub parts_all : {X Y : Type 0} (IsPart : X → List Y → Type 0) (xs : List X) (i : ℕ) (ys : List Y) → length xs ≤ i
    → AreParts IsPart (take i xs) ys → AreParts IsPart xs ys
parts_all {X} IsPart xs i ys past are = subst (λ (ws : List X). AreParts IsPart ws ys) (take_all i xs past) are
