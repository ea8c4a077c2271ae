use Rattle.std.proofs.Common.{take}
use Rattle.ira_view_page.specs.Page.{Added}
use Rattle.ira_view_draw.specs.MomentLine.{rings_text}
use Rattle.ira_view_draw.proofs.moment_line.write_rings.Given as goal

abbrev pub invariant-loop-n : goal.invariant-loop-n
invariant-loop-n g l =
    Added l.initial.out.page (rings_text l.grid.nodes l.grid.window l.column (take l.n l.case)) l.out.page
