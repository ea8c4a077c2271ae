use Rattle.ira_view_page.proofs.Adding.{◌&◌}
use Rattle.ira_view_draw.proofs.highlight.Cause.write.Goals as goal

pub returns-in-Sending : goal.returns-in-Sending
returns-in-Sending g c = (_, c.words.ensures & c.number.ensures)

pub returns-in-Begin : goal.returns-in-Begin
returns-in-Begin g c = (_, c.words-in-Begin.ensures & c.fault-in-Begin.ensures)
