use Rattle.ira_view_json.proofs.Putting.{◌&◌}
use Rattle.ira_view_json.proofs.object.Object.span.Goals as goal

pub returns : goal.returns
returns g c =
    c.number.ensures & c.column.ensures
