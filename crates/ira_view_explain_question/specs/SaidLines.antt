-- The lines after the head of a text, which has two, that say a word.
use Rattle.std.specs.Prelude.{◌≡◌, ◌≢◌, ◌⊎◌, ◌<◌, ◌+◌, ℕ, List}
use Rattle.ira_view_page.specs.Lines.{IsLine, whole_lines}

-- how many lines after the head, in front of the line of a number, say the word
pub data AreSaid (text word : List ℕ) : ℕ → ℕ → Type 0 where
  none : AreSaid text word 3 0
  said : (number count : ℕ) → AreSaid text word number count → IsLine text number word
      → AreSaid text word (number + 1) (count + 1)
  other :
      (number count : ℕ) (line : List ℕ) → AreSaid text word number count → IsLine text number line → line ≢ word
      → AreSaid text word (number + 1) count

-- it is the number of the k-th line after the head that says the word; where there are fewer, one after all whole lines
abbrev pub IsNthLine : List ℕ → List ℕ → ℕ → ℕ → Type 0
IsNthLine text word k number =
    (count : ℕ) × AreSaid text word number count
    × (((count + 1 ≡ k) × IsLine text number word) ⊎ ((count < k) × (whole_lines text < number)))
