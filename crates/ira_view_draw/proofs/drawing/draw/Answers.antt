use Rattle.std.proofs.Common.{◌∙◌, map}
use Rattle.ira_view_picture.specs.Picture.{drawn_of}
use Rattle.ira_view_draw.proofs.Drawings.{drawing_of}
use Rattle.ira_view_draw.proofs.Moments.{has_numbers}
use Rattle.ira_view_draw.proofs.drawing.draw.Goals as goal

pub of-requires : goal.of-requires
of-requires g c = has_numbers (λ cut. cut.now) c.args.logs.now c.args.moment.now _ c.cut.ensures c.requires

pub returns-clause-drawing : goal.returns-clause-drawing
returns-clause-drawing g c =
    let picture = c.in_ok-picture.picture in
    let grid = c.write_ground-grid.result in
    let finished = c.in_ok-finish.ensures in
    let over = c.write_line_of_moment.ensures.ends finished.1.0 finished.1.1 in
    let marked = c.write_marks.ensures.ends over.0 over.1 in
    drawing_of c.args.logs.now c.args.moment.now c.args.columns.from c.args.columns.to _ grid.window picture.last
    picture.line (map drawn_of picture.lanes.items) picture.arrows.items grid.nodes marked.0 over.0 finished.1.0
    c.bytes.result.now c.in_ok-finish.field-0 c.cut.ensures
    (rw c.write_ground-grid.ensures.1 c.in_ok-picture.ensures.shown)
    (c.write_ground-grid.ensures.1 ∙ c.in_ok-picture.ensures.window)
    (c.write_ground-grid.ensures.0 ∙ c.get.ensures.value ∙ c.size.ensures.value)
    (c.bytes.ensures.text ∙ c.in_ok-words.ensures) finished.0 finished.1.2 over.2 marked.2
