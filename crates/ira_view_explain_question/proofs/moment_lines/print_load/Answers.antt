use Rattle.ira_view_page.proofs.Adding.{◌&◌}
use Rattle.ira_view_explain_question.proofs.moment_lines.print_load.Goals as goal

pub returns : goal.returns
returns g c = (_, c.words.ensures & c.load.ensures & c.numbered.ensures)
