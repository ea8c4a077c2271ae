-- What is said of a fault.
use Rattle.std.specs.Prelude.{ℕ, List, ◌++◌, Option, Some, None, codes, decimal}

-- words, and the number that follows them, where one does
pub record FaultWords : Type 0 where
  pub words : List ℕ
  pub number : Option ℕ

-- these words alone
abbrev pub in_words : List ℕ → FaultWords
in_words words = record { words = words; number = None }

-- these words, and then the number
abbrev pub numbered : List ℕ → ℕ → FaultWords
numbered words n = record { words = words; number = Some n }

-- the words, and the number after a space
abbrev pub with_number : List ℕ → Option ℕ → List ℕ
with_number words None = words
with_number words (Some n) = words ++ codes " " ++ decimal n

-- as a text: the words, and the number after a space
abbrev pub said_text : FaultWords → List ℕ
said_text said = with_number said.words said.number
