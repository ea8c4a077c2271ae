use Rattle.ira_view_json.proofs.Putting.{known}
use Rattle.ira_view_json.proofs.object.Object.text.Goals as goal

pub returns : goal.returns
returns g c = known _ c.copied.ensures c.value.ensures
