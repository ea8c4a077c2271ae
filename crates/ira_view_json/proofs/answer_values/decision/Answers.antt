use Rattle.ira_view_json.proofs.Putting.{◌&◌, held}
use Rattle.ira_view_json.proofs.answer_values.decision.Goals as goal

pub returns : goal.returns
returns g c =
    held c.of-object.ensures
    (rw c.decision_word.ensures at c.words.ensures & c.number.ensures
    & c.number-2.ensures)
