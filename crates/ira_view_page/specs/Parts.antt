-- What belongs to each element of a list.
use Rattle.std.specs.Prelude.{◌≡◌, ℕ, List, [], ◌∷◌, ◌++◌, Some, length, slice_get}

-- there is one for each, in their order, and the fact holds of each pair with its number, counted from 0
pub record AreOneForEach {X Y : Type 0} (P : ℕ → X → Y → Type 0) (xs : List X) (ys : List Y) : Type 0 where
  pub count : length ys ≡ length xs
  pub each : (i : ℕ) (x : X) (y : Y) → slice_get xs i ≡ Some x → slice_get ys i ≡ Some y → P i x y

-- of each of these there is a part, one after the other
pub data AreParts {X Y : Type 0} (IsPart : X → List Y → Type 0) : List X → List Y → Type 0 where
  none : AreParts IsPart [] []
  more :
      (xs : List X) (x : X) (ys part : List Y) → AreParts IsPart xs ys → IsPart x part
      → AreParts IsPart (xs ++ x ∷ []) (ys ++ part)
