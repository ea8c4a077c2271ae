use Rattle.ira_view_json.proofs.Putting.{known}
use Rattle.ira_view_json.proofs.object.Object.named.Goals as goal

pub returns-in-Some : goal.returns-in-Some
returns-in-Some g c =
    rw c.in-Some.is (known _ c.list_value.ensures c.value.ensures)
