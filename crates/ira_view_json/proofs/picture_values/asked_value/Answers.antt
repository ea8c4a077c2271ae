use Rattle.ira_view_json.proofs.Putting.{◌&◌, given, held, known}
use Rattle.ira_view_json.proofs.picture_values.asked_value.Goals as goal

pub returns : goal.returns
returns g c =
    given c.finish.result
    (held c.new-object.ensures (c.number.ensures & known _ c.clause_value.ensures c.value.ensures)) c.finish.ensures
