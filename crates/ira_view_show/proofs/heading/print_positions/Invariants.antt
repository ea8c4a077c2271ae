use Rattle.std.proofs.Common.{take}
use Rattle.std.specs.List.{flat_map}
use Rattle.ira_view_page.specs.Page.{Added}
use Rattle.ira_view_show.specs.Asked.{position_text}
use Rattle.ira_view_show.proofs.heading.print_positions.Given as goal

abbrev pub invariant-loop-position : goal.invariant-loop-position
invariant-loop-position g l = Added l.initial.page (flat_map position_text (take l.position-index l.cut)) l.page
