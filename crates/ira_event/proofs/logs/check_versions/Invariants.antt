use Rattle.std.proofs.Common.{◌≡◌, ℕ, ◌<◌, Some, slice_get}
use Rattle.ira_event.specs.Log.{Log}
use Rattle.ira_event.proofs.logs.check_versions.Given as goal

abbrev pub invariant-loop-i : goal.invariant-loop-i
invariant-loop-i g l =
    (j : ℕ) (before : Log) → j < l.i → slice_get l.logs j ≡ Some before → before.version ≡ l.version
