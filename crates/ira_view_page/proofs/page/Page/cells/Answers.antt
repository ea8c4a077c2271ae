use Rattle.std.proofs.Common.{sym, ◌∙◌}
use Rattle.ira_view_page.specs.Table.{column_width}
use Rattle.ira_view_page.proofs.Tables.{none_left, one_more}
use Rattle.ira_view_page.proofs.page.Page.cells.Goals as goal

pub returns-then-are_empty : goal.returns-then-are_empty
returns-then-are_empty g c =
    c.loop-column.invariant c.loop-column.self
    (none_left (column_width c.args.lines.now) c.args.cells.now c.loop-column.column c.loop-column.self
    (sym c.are_empty.ensures ∙ c.if-are_empty.true))

pub loop-column-preserved : goal.loop-column-preserved
loop-column-preserved g c end rest =
    c.loop-column.invariant end
    (one_more (column_width c.args.lines.now) c.args.cells.now c.loop-column.column c.column_width-width.result
    c.index-cells-column.result _ c.loop-column-test.true c.index-cells-column.is c.column_width-width.ensures
    (sym c.are_empty.ensures ∙ c.if-are_empty.false) c.cell.ensures c.gap.ensures rest)
