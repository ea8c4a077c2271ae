use Rattle.std.proofs.Common.{◌∙◌}
use Rattle.ira_view_page.proofs.Tables.{width_next}
use Rattle.ira_view_page.proofs.table.column_width.Goals as goal

pub loop-line-preserved : goal.loop-line-preserved
loop-line-preserved g c =
    c.max-width.ensures
    ∙ width_next c.args.lines.now c.loop-line.line-index c.args.column c.line-item.result _ c.loop-line.width
    c.width.result c.loop-line-test.true c.line-item.is c.width.ensures c.loop-line.invariant
