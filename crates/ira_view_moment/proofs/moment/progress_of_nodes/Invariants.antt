use Rattle.std.proofs.Common.{◌≡◌, length}
use Rattle.ira_view_moment.proofs.OnTheWay.{AreSoFar}
use Rattle.ira_view_moment.proofs.moment.progress_of_nodes.Given as goal

abbrev pub invariant-loop-place : goal.invariant-loop-place
invariant-loop-place g l = record {
  number : length l.nodes.items ≡ l.place;
  each : AreSoFar l.logs l.cut l.nodes.items;
}
