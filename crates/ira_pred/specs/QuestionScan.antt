-- Helpers, no definitions: how the lines of a question's text are scanned, as the reader's contracts say.
use Rattle.std.specs.Option.{option_map}
use Rattle.std.specs.Prelude.{ℕ, List, Option, codes}
use Rattle.ira_event.specs.Scan.{kept_at, after_word, ◌>>=◌}
use Rattle.ira_event.specs.LogScan.{number_line}

-- the head's two lines, its number of any size, and what follows them
abbrev pub head_at : List ℕ → Option (ℕ × List ℕ)
head_at text = do
  v ← after_word (codes "irask 1\n") text
  a ← after_word (codes "nodes ") v
  number_line a

-- the place in front of a clause and the colon and the space after it, and what follows them
abbrev pub place_at : List ℕ → Option (ℕ × List ℕ)
place_at text = kept_at text >>= (λ n. option_map (λ r. (n.0, r)) (after_word (codes ": ") n.1))
