use Rattle.ira_view_json.proofs.Putting.{◌&◌, held, known}
use Rattle.ira_view_json.proofs.answer_values.present.Goals as goal

pub returns : goal.returns
returns g c =
    held c.of-object.ensures
    (c.number.ensures & known _ c.list_value.ensures c.value.ensures & c.words.ensures)
