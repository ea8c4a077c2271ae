use Rattle.std.proofs.Common.{◌≡◌, map, take}
use Rattle.ira_view_picture.specs.Window.{events_drawn}
use Rattle.ira_view_picture.proofs.picture.number_of_marks.Given as goal

abbrev pub invariant-loop-node : goal.invariant-loop-node
invariant-loop-node g l = record {
  rows : map (λ row. row.items) l.node-items ≡ l.columns.nodes;
  number : l.events ≡ events_drawn l.window (take l.node-index l.columns.nodes);
}
