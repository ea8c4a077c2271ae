use Rattle.ira_view_json.proofs.Putting.{◌&◌, held}
use Rattle.ira_view_json.proofs.answer_values.absent.Goals as goal

pub returns : goal.returns
returns g c =
    held c.of-object.ensures
    (c.number.ensures & c.words.ensures & c.number-2.ensures & c.number-3.ensures)
