use Rattle.std.proofs.Common.{◌≡◌, ℕ, ◌<◌, length}
use Rattle.ira_order.specs.Ring.{log_of}
use Rattle.ira_mend.specs.Longest.{IsBeginning, kept_of}
use Rattle.ira_mend.proofs.longest.whole_logs.Given as goal

abbrev pub invariant-loop-place : goal.invariant-loop-place
invariant-loop-place g l = record {
  count : length l.kept.items ≡ l.place;
  each : (i : ℕ) → i < l.place → IsBeginning (log_of l.logs i) (kept_of l.kept.items i);
  whole : (i : ℕ) → i < l.place → (kept_of l.kept.items i).events ≡ length (log_of l.logs i);
}
