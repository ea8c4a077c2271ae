use Rattle.ira_view_json.proofs.Putting.{◌&◌}
use Rattle.ira_view_json.proofs.object.Object.line.Goals as goal

pub returns : goal.returns
returns g c = c.string.ensures & c.number.ensures & c.string-2.ensures & c.carets.ensures
