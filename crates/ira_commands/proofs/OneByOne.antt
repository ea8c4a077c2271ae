-- Lists that are made one by one.
use Rattle.std.proofs.Common.{◌≡◌, ◌∙◌, ◌+◌, ◌++◌, ◌∷◌, ℕ, List, [], Some, ap, ap₂, map, sym, take}
use Rattle.std.proofs.lemmas.List.{map-append}
use Rattle.std.specs.Prelude.{slice_get}
use Rattle.ira_audit.proofs.LogTexts.{next_taken}

-- one more is made of one more
pub made_next : {X Y Z : Type 0} (f : X → Z) (g : Y → Z) (made : List X) (of : List Y) (i : ℕ) (x : X) (y : Y)
    → map f made ≡ map g (take i of) → slice_get of i ≡ Some y → f x ≡ g y
    → map f (made ++ x ∷ []) ≡ map g (take (i + 1) of)
made_next f g made of i x y so at is =
    map-append f made (x ∷ []) ∙ ap₂ (λ zs z. zs ++ z ∷ []) so is ∙ sym (map-append g (take i of) (y ∷ []))
    ∙ ap (map g) (next_taken of i y at)
