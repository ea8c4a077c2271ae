-- The lines of a text, counted from 1.
use Rattle.std.specs.Prelude.{◌≡◌, ◌==◌, ℕ, ◌+◌, ◌⊎◌, List, [], ◌++◌, codes, count_by}
use Rattle.ira_event.specs.NextLine.{HasNoLineFeed}

-- the text from a line on; after its end it is empty
pub data IsFromLine (text : List ℕ) : ℕ → List ℕ → Type 0 where
  first : IsFromLine text 1 text
  next_line :
      (number : ℕ) (line rest : List ℕ) → IsFromLine text number (line ++ codes "\n" ++ rest) → HasNoLineFeed line
      → IsFromLine text (number + 1) rest
  past :
      (number : ℕ) (line : List ℕ) → IsFromLine text number line → HasNoLineFeed line
      → IsFromLine text (number + 1) []

-- it is the text's first line, without its line feed where it has one
pub record IsFirstLine (text line : List ℕ) : Type 0 where
  pub more : List ℕ
  pub begins : (text ≡ line ++ more) × HasNoLineFeed line
  pub ends : (more ≡ []) ⊎ ((rest : List ℕ) × (more ≡ codes "\n" ++ rest))

-- it is what stands after the text's last line feed: all of a text without one
pub record IsLastLine (text line : List ℕ) : Type 0 where
  pub before : List ℕ
  pub ends : (text ≡ before ++ line) × HasNoLineFeed line
  pub begins : (before ≡ []) ⊎ ((lines : List ℕ) × (before ≡ lines ++ codes "\n"))

-- it is line `number` of the text, without its line feed where it has one
pub record IsLine (text : List ℕ) (number : ℕ) (line : List ℕ) : Type 0 where
  pub rest : List ℕ
  pub from : IsFromLine text number rest
  pub is_first : IsFirstLine rest line

-- how many lines of the text end in a line feed
abbrev pub whole_lines : List ℕ → ℕ
whole_lines text = count_by (λ c. c == 10) text
