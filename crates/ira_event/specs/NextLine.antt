-- What stands where a line of a text is due.
use Rattle.std.specs.Prelude.{◌≡◌, ℕ, List, ◌++◌, false, ◌==◌, codes}
use Rattle.std.specs.List.{list_any}

-- no byte is a line feed
abbrev pub HasNoLineFeed : List ℕ → Type 0
HasNoLineFeed text = list_any (λ c. c == 10) text ≡ false

-- the fault of what stands where a line is due: `unended` where no complete line does, else the fault of
-- the line; `F line more g` says that a line has fault g where `more` follows it
pub data NextLineFault {E : Type 0} (unended : E) (F : List ℕ → List ℕ → E
    → Type 0) (rest : List ℕ) (f : E) : Type 0 where
  -- a piece of a line, or nothing
  cut : HasNoLineFeed rest → f ≡ unended → NextLineFault unended F rest f
  -- a complete line with a fault
  at_line : (line more : List ℕ) → rest ≡ line ++ codes "\n" ++ more → HasNoLineFeed line → F line more f
      → NextLineFault unended F rest f
