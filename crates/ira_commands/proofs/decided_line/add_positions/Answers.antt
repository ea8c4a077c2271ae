use Rattle.std.proofs.Common.{codes}
use Rattle.ira_audit.specs.Report.{numbered}
use Rattle.ira_view_page.proofs.Adding.{added_next}
use Rattle.ira_commands.proofs.decided_line.add_positions.Goals as goal

pub loop-position-preserved : goal.loop-position-preserved
loop-position-preserved g c =
    added_next (numbered (codes " ")) c.args.positions.now c.loop-position.position-index _ c.loop-position-test.true
    c.loop-position.invariant c.numbered.ensures
