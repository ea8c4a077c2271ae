use Rattle.ira_view_json.proofs.Putting.{◌&◌}
use Rattle.ira_view_json.proofs.object.Object.state.Goals as goal

pub returns : goal.returns
returns g c = c.phase.ensures & c.term.ensures & c.owed.ensures
