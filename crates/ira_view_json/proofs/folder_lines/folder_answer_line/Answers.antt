use Rattle.ira_view_json.proofs.Putting.{held}
use Rattle.ira_view_json.proofs.folder_lines.folder_answer_line.Goals as goal

pub returns : goal.returns
returns g c = c.into_line.ensures _ (held c.answered-object.ensures c.text.ensures)
