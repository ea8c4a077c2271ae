use Rattle.std.proofs.Common.{refl, sym}
use Rattle.std.specs.Prelude.{None}
use Rattle.ira_audit.specs.declared.answer.Answer.TheVariants.{No}
use Rattle.ira_view_moment.specs.Told.{at_end}
use Rattle.ira_view.proofs.Htmls.{html_told}
use Rattle.ira_view.specs.Html.{IsHtmlOf, IsPictureTold}
use Rattle.ira_view_draw.specs.Drawing.{IsLogsDrawing}
use Rattle.ira_view_picture.specs.DrawFault.{HasTooManyEvents}
use Rattle.ira_commands.proofs.Served.{if_ok}
use Rattle.ira_commands.proofs.Shown.{draws}
use Rattle.ira_commands.specs.Show.{IsRefusalToldOf}
use Rattle.ira_commands.proofs.show.tell_refused.Goals as goal

pub returns-in-Lines : goal.returns-in-Lines
returns-in-Lines g c = λ names texts are. rw c.in-Lines.is c.of_answer_as.ensures

pub returns-in_ok-clone-in-Picture : goal.returns-in_ok-clone-in-Picture
returns-in_ok-clone-in-Picture g c = λ names texts are.
    let logs = c.args.logs.now in
    let from = c.in-Picture.columns.from in
    let to = c.in-Picture.columns.to in
    rw c.in-Picture.is (if_ok c.tell_picture.result (λ reply told.
    draws (No c.args.reason) (IsLogsDrawing logs from to) (HasTooManyEvents logs None from to)
    c.draw_refused-picture.result reply
    (if_ok c.draw_refused-picture.result (λ text is. is.printable) c.draw_refused-picture.ensures.drawing)
    c.draw_refused-picture.ensures.drawing c.draw_refused-picture.ensures.events told) c.tell_picture.ensures)

pub refused_lines-requires-clause-judged : goal.refused_lines-requires-clause-judged
refused_lines-requires-clause-judged g c = (c.requires.files (rw c.in-Html.is refl)).0

pub refused_lines-requires-clause-reason : goal.refused_lines-requires-clause-reason
refused_lines-requires-clause-reason g c = c.requires.reason.1

pub refused_lines-requires-clause-places : goal.refused_lines-requires-clause-places
refused_lines-requires-clause-places g c = (c.requires.files (rw c.in-Html.is refl)).1

pub returns-in_ok-clone-in-Html-2 : goal.returns-in_ok-clone-in-Html-2
returns-in_ok-clone-in-Html-2 g c = λ names texts are.
    let logs = c.args.logs.now in
    let from = c.in-Html.columns.from in
    let to = c.in-Html.columns.to in
    let AreTold = IsRefusalToldOf names texts c.args.judged.now c.args.reason logs in
    let IsPicture = IsPictureTold logs at_end None from to in
    let lines : IsRefusalToldOf names texts c.args.judged.now c.args.reason logs c.as_bytes.result.now =
    (c.args.files.now, are (rw c.in-Html.is refl), rw (sym c.as_bytes.ensures.value) at c.in_ok-told-in-Html.ensures) in
    let html = html_told IsPicture AreTold c.as_bytes.result.now c.refused_html-page.result lines c.refused_html-page.ensures.html in
    rw c.in-Html.is (if_ok c.tell_picture-in-Html.result (λ reply told.
    draws (No c.args.reason) (IsHtmlOf IsPicture AreTold) (HasTooManyEvents logs None from to)
    c.refused_html-page.result reply c.refused_html-page.ensures.printable html c.refused_html-page.ensures.events told)
    c.tell_picture-in-Html.ensures)
