use Rattle.ira_view_page.proofs.Adding.{◌&◌}
use Rattle.ira_view_draw.proofs.drawing.write_highlights.Goals.{in-Some, in_default}
use Rattle.ira_view_draw.proofs.drawing.write_highlights.Goals as goal

pub loop-event-preserved : goal.loop-event-preserved
loop-event-preserved g c =
    elim c.match-column_of.branch [
      | in-Some w ↦ rw w.out-is (_, c.loop-event.invariant.1 & w.write_highlight.ensures.1)
      | in_default w ↦ rw w.out-is c.loop-event.invariant
    ]
