use Rattle.ira_view_page.proofs.Adding.{◌&◌}
use Rattle.ira_view_explain_question.proofs.explain.print_line.Goals as goal

pub returns : goal.returns
returns g c = (
  c.line.result.now,
  c.line.ensures,
  c.begin.ensures & c.place.ensures & c.words.ensures & c.quote.ensures & c.end.ensures,
)
