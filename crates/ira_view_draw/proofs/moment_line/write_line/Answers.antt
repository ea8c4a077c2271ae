use Rattle.ira_view_page.proofs.Adding.{◌&◌}
use Rattle.ira_view_draw.proofs.moment_line.write_line.Goals as goal

pub returns : goal.returns
returns g c =
    let down = rw (c.x.ensures.place, c.foot.ensures.place) at c.down.ensures in
    c.open.ensures & c.words.ensures & down & c.words-2.ensures
