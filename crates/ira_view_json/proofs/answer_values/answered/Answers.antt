use Rattle.ira_view_json.proofs.Putting.{◌&◌, held, known}
use Rattle.ira_view_json.proofs.answer_values.answered.Goals as goal

pub returns : goal.returns
returns g c =
    held c.of-object.ensures
    (known _ c.answer_words.ensures c.value.ensures & c.number.ensures & c.number-2.ensures)
