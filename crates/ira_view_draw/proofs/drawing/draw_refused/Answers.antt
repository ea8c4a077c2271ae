use Rattle.std.proofs.Common.{◌∙◌, map}
use Rattle.ira_view_picture.specs.Picture.{drawn_of}
use Rattle.ira_view_draw.proofs.Drawings.{logs_drawing_of}
use Rattle.ira_view_draw.proofs.drawing.draw_refused.Goals as goal

pub returns-clause-drawing : goal.returns-clause-drawing
returns-clause-drawing g c =
    let picture = c.in_ok-picture.picture in
    let grid = c.write_ground-grid.result in
    let finished = c.in_ok-finish.ensures in
    let above = c.write_highlights.ensures in
    let over = above.1.ends finished.1.0 finished.1.1 in
    let marked = c.write_marks.ensures.ends over.0 over.1 in
    logs_drawing_of c.args.logs.now c.args.columns.from c.args.columns.to grid.window picture.last
    picture.line (map drawn_of picture.lanes.items) picture.arrows.items grid.nodes marked.0 over.0 finished.1.0
    above.0 c.in_ok-finish.field-0
    (rw c.write_ground-grid.ensures.1 c.in_ok-picture.ensures.shown)
    (c.write_ground-grid.ensures.1 ∙ c.in_ok-picture.ensures.window)
    (c.write_ground-grid.ensures.0 ∙ c.get.ensures.value ∙ c.size.ensures.value)
    finished.0 finished.1.2 over.2 marked.2
