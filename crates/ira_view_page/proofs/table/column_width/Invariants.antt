use Rattle.std.proofs.Common.{◌≡◌, take}
use Rattle.ira_view_page.specs.Table.{column_width}
use Rattle.ira_view_page.proofs.table.column_width.Given as goal

abbrev pub invariant-loop-line : goal.invariant-loop-line
invariant-loop-line g l = l.width ≡ column_width (take l.line-index l.lines) l.column
