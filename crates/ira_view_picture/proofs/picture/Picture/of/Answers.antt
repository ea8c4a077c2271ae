use Rattle.std.proofs.Common.{arith}
use Rattle.ira_view_picture.proofs.Rows.{rows_of}
use Rattle.ira_view_picture.proofs.picture.Picture.of.Goals as goal

pub nodes_of_ring-requires : goal.nodes_of_ring-requires
nodes_of_ring-requires g c = rows_of _ _ _ c.in_ok-columns.ensures.columns

pub returns-clause-shown : goal.returns-clause-shown
returns-clause-shown g c = record {
  columns = _;
  columns_are = c.in_ok-columns.ensures.columns;
  last_is = c.last-all.ensures;
  line_is = c.line_of.ensures;
  few = omega (arith, c.number_of_marks-events.ensures, c.if-events-gt-MAX_MARKS.false);
  are_lanes = c.in_ok-lanes.ensures.lanes;
  are_arrows = c.in_ok-arrows.ensures;
}
