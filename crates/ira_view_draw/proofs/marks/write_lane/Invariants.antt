use Rattle.std.proofs.Common.{take}
use Rattle.std.specs.List.{flat_map}
use Rattle.ira_view_page.specs.Page.{Added}
use Rattle.ira_view_draw.specs.Marks.{mark_text}
use Rattle.ira_view_draw.proofs.marks.write_lane.Given as goal

abbrev pub invariant-loop-mark : goal.invariant-loop-mark
invariant-loop-mark g l =
    Added l.initial.out.page (flat_map (mark_text l.grid.nodes l.grid.window l.place) (take l.mark-index l.mark-items))
    l.out.page
