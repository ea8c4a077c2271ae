use Rattle.std.proofs.Common.{◌≡◌, ◌<◌, ℕ, Some}
use Rattle.std.specs.Prelude.{slice_get}
use Rattle.ira_event.specs.Log.{Log}
use Rattle.ira_mend.specs.declared.recorded_log.RecordedLog.TheVariants as taken
use Rattle.ira_mend.proofs.recorded_logs.RecordedLogs.ring.Given as goal

abbrev pub invariant-loop-recorded : goal.invariant-loop-recorded
invariant-loop-recorded g l =
    (i : ℕ) (log : Log) → i < l.recorded-index → slice_get l.recorded-items i ≡ Some (taken.Log log) → ⊥
