use Rattle.ira_view_json.proofs.Putting.{◌&◌, given, held}
use Rattle.ira_view_json.proofs.picture_values.BandToValue.to_value.Goals as goal

pub returns : goal.returns
returns g c = given c.finish.result (held c.new-object.ensures (rw c.kind_word.ensures at c.words.ensures & c.span.ensures)) c.finish.ensures
