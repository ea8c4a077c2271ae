-- How many parts a formula has.
use Rattle.std.proofs.Common.{ℕ, ◌+◌}
use Rattle.ira_pred.specs.Formula.{Formula, both, either, negated}

-- how many parts a formula has
abbrev pub size : Formula → ℕ
size (both a b) = 1 + size a + size b
size (either a b) = 1 + size a + size b
size (negated a) = 1 + size a
size _ = 1
