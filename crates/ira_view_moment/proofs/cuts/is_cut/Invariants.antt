use Rattle.std.proofs.Common.{◌≡◌, ℕ, ◌<◌, ◌≤◌, length}
use Rattle.std.specs.Prelude.{slice_index}
use Rattle.ira_order.specs.Ring.{log_of}
use Rattle.ira_view_moment.proofs.cuts.is_cut.Given as goal

abbrev pub invariant-loop-place : goal.invariant-loop-place
invariant-loop-place g l = record {
  places : length l.cut ≡ length l.logs;
  within : (i : ℕ) → i < l.place → slice_index l.cut i ≤ length (log_of l.logs i);
}
