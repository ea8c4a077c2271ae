use Rattle.std.proofs.Common.{◌≡◌, ◌*◌, ◌≤◌, ℕ, Some, length, take}
use Rattle.std.specs.List.{sum_by}
use Rattle.std.specs.Prelude.{slice_get}
use Rattle.ira_event.specs.Limits.{MAX_RECORDS}
use Rattle.ira_order.specs.OrderPrefix.{tally_at}
use Rattle.ira_view_evidence.specs.CircleEvidence.{IsStuckAt}
use Rattle.ira_view_evidence.specs.declared.stuck_at.StuckAt.{StuckAt}
use Rattle.ira_view_evidence.proofs.circle_evidence.stuck_nodes.Given as goal

abbrev pub invariant-loop-place : goal.invariant-loop-place
invariant-loop-place g l = record {
  places : length l.stuck.items ≡ l.place;
  total : l.ordered ≡ sum_by (λ t. t.events) (take l.place l.prefix.tallies);
  few : l.ordered ≤ l.place * MAX_RECORDS;
  each : (j : ℕ) (s : StuckAt) → slice_get l.stuck.items j ≡ Some s
      → IsStuckAt l.logs j (tally_at l.prefix.tallies j).events s;
}
