use Rattle.ira_commands.proofs.Served.{if_ok}
use Rattle.ira_commands.proofs.explain.explain_one.Goals as goal

pub returns : goal.returns
returns g c = if_ok c.tell_view.result (λ reply told. record {
  answer = c.in_ok-view.view.answer;
  judged = c.in_ok-view.ensures.answer;
  told = (c.in_ok-view.view.explanation, c.in_ok-view.ensures.explained, told);
}) c.tell_view.ensures
