use Rattle.ira_view_page.proofs.Adding.{◌&◌}
use Rattle.ira_view_draw.proofs.Lines.{column_drawn}
use Rattle.ira_view_draw.proofs.moment_line.write_pale.Goals as goal

pub returns-then-contains : goal.returns-then-contains
returns-then-contains g c =
    let inside = column_drawn c.args.grid.now.window c.args.column (c.contains.ensures.0 c.if-contains.true) in
    let x = rw c.x-x.ensures.place at c.number.ensures in
    let width = rw (c.saturating_sub.ensures, c.width.ensures, c.x-x.ensures.place) at c.number-then-contains-2.ensures in
    let height = rw c.foot.ensures.place at c.number-then-contains-3.ensures in
    rw inside (c.open.ensures & x & c.number-then-contains.ensures & width & height & c.words.ensures)
