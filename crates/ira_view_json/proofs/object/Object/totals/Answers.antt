use Rattle.ira_view_json.proofs.Putting.{◌&◌, known}
use Rattle.ira_view_json.proofs.object.Object.totals.Goals as goal

pub returns : goal.returns
returns g c =
    rw c.totals-totals.ensures at c.number.ensures & rw c.totals-totals.ensures at c.number-2.ensures
    & rw c.totals-totals.ensures at c.number-3.ensures
    & known _ c.list_value.ensures c.value.ensures
    & rw c.is_empty.ensures at c.over.ensures
