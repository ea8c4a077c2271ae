-- Texts in a list.
use Rattle.std.specs.Prelude.{ℕ, List, [], ◌∷◌, ◌++◌, Bool, true, false, codes}
use Rattle.std.specs.List.{flat_map}

-- what stands before a thing of a list
abbrev pub comma_text : Bool → List ℕ
comma_text true = []
comma_text false = codes ", "

-- things one after the other, of which the first has another text
abbrev pub list_text : {X : Type 0} → (Bool → X → List ℕ) → List X → List ℕ
list_text text [] = []
list_text text (x ∷ xs) = text true x ++ flat_map (text false) xs
