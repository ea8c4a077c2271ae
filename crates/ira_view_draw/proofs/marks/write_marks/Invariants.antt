use Rattle.std.proofs.Common.{map, take}
use Rattle.std.specs.List.{enumerate_from, flat_map}
use Rattle.ira_view_page.specs.Page.{Added}
use Rattle.ira_view_picture.specs.Picture.{drawn_of}
use Rattle.ira_view_draw.specs.Marks.{lane_text}
use Rattle.ira_view_draw.proofs.marks.write_marks.Given as goal

abbrev pub invariant-loop-place : goal.invariant-loop-place
invariant-loop-place g l =
    Added l.initial.out.page
    (flat_map (lane_text l.grid.nodes l.grid.window)
    (take l.place (enumerate_from 0 (map drawn_of l.picture.lanes.items)))) l.out.page
