use Rattle.ira_view_json.proofs.Putting.{◌&◌}
use Rattle.ira_view_json.proofs.object.Object.record.Goals as goal

pub returns : goal.returns
returns g c =
    c.number.ensures & c.number-2.ensures & c.string.ensures & rw c.line_of.ensures.value at c.number-3.ensures
    & c.event.ensures
