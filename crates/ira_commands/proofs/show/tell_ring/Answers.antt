use Rattle.ira_view.specs.Html.{IsRingHtml}
use Rattle.ira_view.specs.ShownRing.{HasTooManyAt}
use Rattle.ira_audit.specs.declared.answer.Answer.TheVariants.{Yes}
use Rattle.ira_commands.proofs.Served.{if_ok}
use Rattle.ira_commands.proofs.Shown.{draws}
use Rattle.ira_commands.proofs.show.tell_ring.Goals as goal

pub returns-in-Lines : goal.returns-in-Lines
returns-in-Lines g c =
    let differ = rw c.in-Lines.is at c.requires.differences in
    rw c.in-Lines.is (if_ok c.tell_lines.result (λ reply told. (c.args.differences, differ, told)) c.tell_lines.ensures)

pub returns-in_ok-clone-in-Html : goal.returns-in_ok-clone-in-Html
returns-in_ok-clone-in-Html g c =
    let ring = c.args.ring in
    let from = c.in-Html.columns.from in
    let to = c.in-Html.columns.to in
    rw c.in-Html.is (if_ok c.tell_picture.result (λ reply told.
    draws Yes (IsRingHtml ring from to) (HasTooManyAt ring from to) c.ring_html-page.result reply
    c.ring_html-page.ensures.printable c.ring_html-page.ensures.html c.ring_html-page.ensures.events told) c.tell_picture.ensures)

pub returns-in-Picture : goal.returns-in-Picture
returns-in-Picture g c = rw c.in-Picture.is c.tell_drawn.ensures
