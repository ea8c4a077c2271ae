use Rattle.ira_view_page.proofs.Adding.{◌&◌}
use Rattle.ira_view_draw.proofs.moment_line.write_ring.Goals as goal

pub returns : goal.returns
returns g c =
    let x = rw c.x.ensures.place at c.number.ensures in
    let y = rw (c.y.ensures.place, c.from.ensures) at c.number-2.ensures in
    c.open.ensures & x & y & c.number-3.ensures & c.words.ensures
