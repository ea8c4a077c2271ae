use Rattle.ira_view_page.proofs.Adding.{added_next}
use Rattle.ira_view_show.specs.Asked.{position_text}
use Rattle.ira_view_show.proofs.heading.print_positions.Goals as goal

pub loop-position-preserved : goal.loop-position-preserved
loop-position-preserved g c =
    added_next position_text c.args.cut.now c.loop-position.position-index _ c.loop-position-test.true
    c.loop-position.invariant c.print_position.ensures
