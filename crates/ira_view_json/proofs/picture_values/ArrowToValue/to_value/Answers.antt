use Rattle.ira_view_json.proofs.Putting.{◌&◌, given, held}
use Rattle.ira_view_json.proofs.picture_values.ArrowToValue.to_value.Goals as goal

pub returns : goal.returns
returns g c = given c.finish.result (held c.new-object.ensures (c.number.ensures & c.column.ensures & c.column-2.ensures
    & rw c.passage_word.ensures at c.words.ensures & c.load.ensures)) c.finish.ensures
