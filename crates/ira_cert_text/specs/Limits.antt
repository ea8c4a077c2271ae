-- The limits of certificates.
use Rattle.std.specs.Prelude.{ℕ}

-- the most sections that a certificate has: one for each pair of `MAX_NODES` nodes
abbrev pub MAX_SECTIONS : ℕ
MAX_SECTIONS = 32385

-- the most steps that a section has
abbrev pub MAX_STEPS : ℕ
MAX_STEPS = 1000000
