use Rattle.ira_view_json.proofs.Putting.{held}
use Rattle.ira_view_json.proofs.page_lines.explanation_line.Goals as goal

pub returns : goal.returns
returns g c = c.into_line.ensures _ (held c.of-object.ensures c.text.ensures)
