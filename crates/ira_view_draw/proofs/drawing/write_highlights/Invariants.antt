use Rattle.ira_view_page.specs.Page.{AddedSome}
use Rattle.ira_view_draw.proofs.drawing.write_highlights.Given as goal

abbrev pub invariant-loop-event : goal.invariant-loop-event
invariant-loop-event g l = AddedSome l.initial.out.page l.out.page
