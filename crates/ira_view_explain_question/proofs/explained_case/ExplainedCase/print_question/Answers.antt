use Rattle.ira_view_page.proofs.Adding.{◌&◌}
use Rattle.ira_view_explain_question.proofs.explained_case.ExplainedCase.print_question.Goals as goal

pub returns : goal.returns
returns g c = (_, c.words-2.ensures & c.show.ensures)
