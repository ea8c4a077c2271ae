use Rattle.ira_view_page.proofs.Adding.{some_part}
use Rattle.ira_view_explain_question.proofs.explained_case.ExplainedCase.print_nodes.Goals as goal

pub returns : goal.returns
returns g c = some_part c.table.ensures
