use Rattle.ira_view_page.proofs.Adding.{◌&◌}
use Rattle.ira_view_explain_question.proofs.explained_case.ExplainedCase.print_moment.Goals as goal

pub returns : goal.returns
returns g c = (
  _,
  c.line.ensures & c.print_nodes.ensures.1 & c.print_loads.ensures.1 & c.begin.ensures & c.words.ensures
      & c.print_question.ensures.1 & c.words-2.ensures & c.number.ensures & c.words-3.ensures & c.end.ensures,
)
