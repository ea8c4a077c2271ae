use Rattle.ira_view_json.proofs.Putting.{◌&◌, held}
use Rattle.ira_view_json.proofs.log_lines.log_line.Goals as goal

pub returns : goal.returns
returns g c =
    c.into_line.ensures _
    (held c.of-object.ensures
    (c.text.ensures & rw c.place.ensures.value at c.number.ensures & rw c.start_of.ensures at c.words.ensures))
