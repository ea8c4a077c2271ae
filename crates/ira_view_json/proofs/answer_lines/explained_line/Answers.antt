use Rattle.ira_view_json.proofs.Putting.{◌&◌, held}
use Rattle.ira_view_json.proofs.answer_lines.explained_line.Goals as goal

pub returns : goal.returns
returns g c =
    c.into_line.ensures _
    (held c.answered-object.ensures (c.reason_of.ensures & c.explanation.ensures & c.election.ensures))
