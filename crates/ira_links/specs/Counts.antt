-- How many frames passed a link.
use Rattle.std.specs.Prelude.{ℕ}

-- how many frames a link accepted, and how many were taken from it
pub record Counts : Type 0 where
  pub puts : ℕ
  pub takes : ℕ
