-- What options say, by the values that are found of them.
use Rattle.std.specs.Prelude.{◌≡◌, ◌<◌, ◌≤◌, Bool, codes, ◌==◌, ◌^◌, ℕ, false, All, List, [], ◌∷◌, Option, Some, None, IfSome, IsSomeAnd}
use Rattle.std.specs.List.{slice_split}
use Rattle.std.specs.Str.Parse.{IsNumeral, digits_value, without_leading_plus}
use Rattle.std.specs.Option.{option_map_or}
use Rattle.std.specs.Str.{bytes_eq}
use Rattle.clap.specs.Walk.{Row, Text, first_of}

-- the option has no value: it isn't given
abbrev pub IsLeftOut : Text → List Row → Type 0
IsLeftOut name rows = first_of name rows ≡ None

-- the text writes this number in decimal digits, which a plus may stand before
abbrev pub IsNumber : ℕ → Text → Type 0
IsNumber n text = IsNumeral 10 (without_leading_plus text) × (digits_value 10 (without_leading_plus text) ≡ n)

-- the text writes a number below 2^64
abbrev pub WritesNumber : Text → Type 0
WritesNumber text = (n : ℕ) × IsNumber n text × (n < 2 ^ 64)

-- the value of this option is this number
abbrev pub HasNumber : List Row → Text → ℕ → Type 0
HasNumber rows name n = IsSomeAnd (first_of name rows) (IsNumber n)

-- one up to this
abbrev pub HasNumberTo : ℕ → List Row → Text → Type 0
HasNumberTo most rows name = (n : ℕ) × HasNumber rows name n × (n ≤ most)

-- the same, or there is no number, where the option isn't given
abbrev pub MayHaveNumber : List Row → Text → Option ℕ → Type 0
MayHaveNumber rows name (Some n) = HasNumber rows name n
MayHaveNumber rows name None = IsLeftOut name rows

-- the option is left out, or its value is a number
abbrev pub ListsNumber : Text → List Row → Type 0
ListsNumber name rows = IfSome (first_of name rows) WritesNumber

-- the flag is given
abbrev pub is_set : Text → List Row → Bool
is_set name rows = option_map_or (bytes_eq (codes "true")) (first_of name rows) false

-- ---- lists of numbers

-- the parts of a text between its commas
abbrev pub parts_of : Text → List Text
parts_of text = slice_split (λ b. b == 44) text

-- each text writes the number at its place
abbrev pub AreNumbers : List ℕ → List Text → Type 0
AreNumbers [] [] = Unit {0}
AreNumbers (n ∷ ns) (t ∷ ts) = IsNumber n t × AreNumbers ns ts
AreNumbers [] (t ∷ ts) = ⊥
AreNumbers (n ∷ ns) [] = ⊥

-- each part of the text writes a number
abbrev pub WritesNumbers : Text → Type 0
WritesNumbers text = All WritesNumber (parts_of text)

-- the value of this option is the list of these numbers
abbrev pub HasNumbers : List Row → Text → List ℕ → Type 0
HasNumbers rows name ns = IsSomeAnd (first_of name rows) (λ text. AreNumbers ns (parts_of text))

-- the option is left out, or its value is a list of numbers
abbrev pub ListsNumbers : Text → List Row → Type 0
ListsNumbers name rows = IfSome (first_of name rows) WritesNumbers
