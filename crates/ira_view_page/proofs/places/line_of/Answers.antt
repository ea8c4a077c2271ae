use Rattle.ira_view_page.proofs.EventLines.{event_line}
use Rattle.ira_view_page.proofs.places.line_of.Goals as goal

pub returns-clause-line : goal.returns-clause-line
returns-clause-line c = event_line c.args.position
