use Rattle.std.proofs.Common.{take}
use Rattle.std.specs.List.{flat_map}
use Rattle.ira_view_page.specs.Page.{Added}
use Rattle.ira_view_page.specs.Table.{column_width, row_text}
use Rattle.ira_view_page.proofs.page.Page.table.Given as goal

abbrev pub invariant-loop-line : goal.invariant-loop-line
invariant-loop-line g l =
    Added l.initial.self (flat_map (row_text (column_width l.lines.items)) (take l.line-index l.lines.items)) l.self
