use Rattle.ira_view_page.proofs.Adding.{◌&◌}
use Rattle.ira_commands.proofs.decided_line.add_asked.Goals as goal

pub loop-n-preserved : goal.loop-n-preserved
loop-n-preserved g c =
    (_, c.loop-n.invariant.1 & c.numbered.ensures & c.words.ensures & c.clause-in-loop-n.ensures)
