use Rattle.ira_view_json.proofs.Putting.{◌&◌, given, held}
use Rattle.ira_view_json.proofs.answer_values.AskedNodeToValue.to_value.Goals as goal

pub returns : goal.returns
returns g c =
    given c.finish.result (held c.new-object.ensures (c.number.ensures & c.string.ensures & c.number-2.ensures))
    c.finish.ensures
