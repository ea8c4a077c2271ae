use Rattle.std.proofs.Common.{◌∙◌, map, string_bytes, subst}
use Rattle.ira_view_draw.proofs.Moments.{has_numbers, numbers_have_line}
use Rattle.ira_view_moment.specs.ChosenMoment.{cut_of}
use Rattle.ira_view_moment.specs.Told.{told_of}
use Rattle.ira_view_picture.specs.Picture.{drawn_of}
use Rattle.ira_view.proofs.Pictures.{picture_told}
use Rattle.ira_view.specs.Html.{IsPictureTold}
use Rattle.ira_view.specs.ShownRing.{ShownRing}
use Rattle.ira_view.proofs.shown_ring.ShownRing.picture_line.Goals as goal

pub of-requires : goal.of-requires
of-requires g c =
    rw c.logs-logs.ensures.value (has_numbers (λ cut. cut.now) c.self.inside.logs c.self.inside.moment _ c.cut.ensures
    c.self.invariant)

pub returns-clause-picture : goal.returns-clause-picture
returns-clause-picture g c =
    let picture = c.in_ok-picture.picture in
    let logs = c.self.inside.logs in
    let moment = c.self.inside.moment in
    let from = c.args.columns.from in
    let to = c.args.columns.to in
    let line = string_bytes c.in_ok-picture_line.field-0 in
    subst (λ (r : ShownRing). IsPictureTold r.logs r.told r.cut from to line) c.self.view_is
    (picture_told logs (told_of moment) (cut_of logs moment) _ from to picture.window picture.last picture.line
    (map drawn_of picture.lanes.items) picture.arrows.items line (c.cut.ensures ∙ numbers_have_line logs moment)
    c.in_ok-picture.ensures.window (rw c.logs-logs.ensures.value at c.in_ok-picture.ensures.shown)
    c.in_ok-picture_line.ensures)
