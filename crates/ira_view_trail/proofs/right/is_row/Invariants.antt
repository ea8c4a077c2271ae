use Rattle.std.proofs.Common.{◌<◌, ◌≤◌, ℕ}
use Rattle.std.specs.Prelude.{slice_index}
use Rattle.ira_view_trail.proofs.right.is_row.Given as goal

abbrev pub invariant-loop-k : goal.invariant-loop-k
invariant-loop-k l = record {
  below : (j : ℕ) → j < l.k → slice_index l.row j ≤ l.last;
  first : (j : ℕ) → j < l.k → 1 ≤ slice_index l.row j;
  rise : (j h : ℕ) → j < h → h < l.k → slice_index l.row j < slice_index l.row h;
  inside : (j : ℕ) → j < l.k → j < l.held → slice_index l.row j < l.line;
  outside : (j : ℕ) → j < l.k → l.held ≤ j → l.line < slice_index l.row j;
}
