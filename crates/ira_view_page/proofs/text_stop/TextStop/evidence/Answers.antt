use Rattle.std.proofs.Common.{refl}
use Rattle.ira_view_page.proofs.text_stop.TextStop.evidence.Goals as goal

pub returns-in_ok-quoted-in-Line : goal.returns-in_ok-quoted-in-Line
returns-in_ok-quoted-in-Line g c = rw c.in-Line.is (_, refl, c.in_ok-quoted-in-Line.ensures)

pub returns-in_ok-quoted-in-Some : goal.returns-in_ok-quoted-in-Some
returns-in_ok-quoted-in-Some g c =
    rw (c.in-ShortHead.is, c.in-Some.is) (_, refl, c.in_ok-quoted-in-Some.ensures)
