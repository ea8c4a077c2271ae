-- Helpers, no definitions: how the lines of a certificate's text are scanned, as the reader's contracts say.
use Rattle.std.specs.Option.{option_map}
use Rattle.std.specs.Prelude.{ℕ, List, Option, Some, None, codes}
use Rattle.ira_event.specs.Scan.{kept_at, after_word, ◌>>=◌, then_or}
use Rattle.ira_event.specs.LogScan.{number_line}
use Rattle.ira_cert_text.specs.declared.cert_line.SpelledStep.{SpelledStep}
use Rattle.ira_cert_text.specs.declared.cert_line.SpelledLine.{SpelledLine}
use Rattle.ira_cert_text.specs.declared.cert_line.SpelledLine.TheVariants.{Step, Spent}
use Rattle.ira_cert_text.specs.declared.cert_step.CertStep.{CertStep}

-- the step of these numbers
abbrev pub as_step : SpelledStep → CertStep
as_step s = record { node = s.node; pos = s.pos; other = s.other; other_pos = s.other_pos }

-- the numbers of a step to its line's end, and what follows the line
unfoldable pub step_at : List ℕ → Option (SpelledStep × List ℕ)
step_at text = do
  node ← kept_at text
  a ← after_word (codes " ") node.1
  pos ← kept_at a
  b ← after_word (codes " by ") pos.1
  other ← kept_at b
  c ← after_word (codes " ") other.1
  other_pos ← kept_at c
  rest ← after_word (codes "\n") other_pos.1
  Some (record { node = node.0; pos = pos.0; other = other.0; other_pos = other_pos.0 }, rest)

-- the line of a section after its first one, and what follows it
abbrev pub section_line_at : List ℕ → Option (SpelledLine × List ℕ)
section_line_at text =
    then_or (after_word (codes "drop ") text) (λ r. option_map (λ p. (Step p.0, p.1)) (step_at r))
    (then_or (after_word (codes "spent ") text) (λ r. option_map (λ p. (Spent p.0, p.1)) (number_line r)) None)

-- the head's two lines, its number of any size, and what follows them
abbrev pub head_at : List ℕ → Option (ℕ × List ℕ)
head_at text = do
  v ← after_word (codes "ircert 1\n") text
  a ← after_word (codes "nodes ") v
  number_line a
