use Rattle.ira_view_json.proofs.Putting.{given, held}
use Rattle.ira_view_json.proofs.picture_values.SpanToValue.to_value.Goals as goal

pub returns : goal.returns
returns g c = given c.finish.result (held c.new-object.ensures c.span.ensures) c.finish.ensures
