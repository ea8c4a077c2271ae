-- How a number is spelled in decimal digits.
use Rattle.std.specs.Prelude.{◌≡◌, ℕ, ◌+◌, ◌*◌, ◌-◌, ◌≤◌, true, List, [], ◌∷◌, ◌⊎◌}
use Rattle.std.specs.Str.{all_ascii_digits}

-- the number that the digits spell when they follow digits that spell n
abbrev pub value_from : ℕ → List ℕ → ℕ
value_from n [] = n
value_from n (c ∷ cs) = value_from (10 * n + (c - 48)) cs

-- the one spelling of a number of any size: `0`, or a digit 1 to 9 and then any digits
abbrev pub IsNumeral : List ℕ → ℕ → Type 0
IsNumeral [] n = ⊥
IsNumeral (c ∷ cs) n =
    ((c ≡ 48) × (cs ≡ []) × (n ≡ 0))
    ⊎ ((49 ≤ c) × (c ≤ 57) × (all_ascii_digits cs ≡ true) × (n ≡ value_from (c - 48) cs))
