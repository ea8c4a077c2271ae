use Rattle.ira_view_json.proofs.Putting.{◌&◌}
use Rattle.ira_view_json.proofs.object.Object.place.Goals as goal

pub returns : goal.returns
returns g c = c.string.ensures & c.number.ensures & c.number-2.ensures
