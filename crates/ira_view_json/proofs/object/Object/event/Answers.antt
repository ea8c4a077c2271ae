use Rattle.ira_view_json.proofs.Putting.{known}
use Rattle.ira_view_json.proofs.object.Object.event.Goals as goal

pub returns : goal.returns
returns g c = known _ c.record_value.ensures c.value.ensures
