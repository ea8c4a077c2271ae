use Rattle.std.proofs.Common.{◌≡◌, length, map}
use Rattle.ira_view_picture.specs.Picture.{drawn_of}
use Rattle.ira_view_picture.proofs.NodeLanes.{EachDrawn, EachTraffic}
use Rattle.ira_view_picture.proofs.picture.nodes_of_ring.Given as goal

abbrev pub invariant-loop-place : goal.invariant-loop-place
invariant-loop-place g l = record {
  number : length l.lanes.items ≡ l.place;
  each : EachDrawn l.logs l.columns.nodes l.window (map drawn_of l.lanes.items);
  sides : length l.traffic.items ≡ l.place;
  traffic : EachTraffic l.logs l.traffic.items;
}
