use Rattle.std.proofs.Common.{◌≡◌, ℕ, Some, Ok, length}
use Rattle.std.specs.Prelude.{slice_get}
use Rattle.ira_par.proofs.tables.find_all.Given as goal

abbrev pub invariant-loop-n : goal.invariant-loop-n
invariant-loop-n g l = record {
  count : length l.found.items ≡ l.n;
  each : (k : ℕ) (t : _) → slice_get l.found.items k ≡ Some t → goal.F-post g l.find k (Ok t);
}
