use Rattle.std.proofs.Common.{◌≡◌, ◌≤◌, take}
use Rattle.ira_view_picture.specs.Window.{number_drawn}
use Rattle.ira_view_picture.proofs.picture.count_drawn.Given as goal

abbrev pub invariant-loop-column : goal.invariant-loop-column
invariant-loop-column l = record {
  few : l.events ≤ l.column-index;
  number : l.events ≡ number_drawn l.window (take l.column-index l.columns);
}
