use Rattle.std.proofs.Common.{refl}
use Rattle.ira_view_page.proofs.Adding.{◌&◌}
use Rattle.ira_view_page.proofs.text_stop.TextStop.print.Goals as goal

pub returns-in-Some : goal.returns-in-Some
returns-in-Some g c =
    let line = c.print.ensures in
    rw (c.in-ShortHead.is, c.in-Some.is) (_, (line.0, line.1, refl), c.print_short_head.ensures & line.2)
