-- The limits of questions, beside those of logs and texts.
use Rattle.std.specs.Prelude.{ℕ}
pub use Rattle.ira_event.specs.Limits.{MAX_NUMBER, MAX_TEXT}

-- the most cases that a question has: one for each pair of `MAX_NODES` nodes
abbrev pub MAX_CASES : ℕ
MAX_CASES = 32385

-- how deep the parentheses of a clause are nested at most
abbrev pub MAX_DEPTH : ℕ
MAX_DEPTH = 32
