use Rattle.std.proofs.Common.{[], refl}
use Rattle.ira_commands.proofs.Served.{if_ok}
use Rattle.ira_web.proofs.commands.judge_log.Goals as goal

pub returns : goal.returns
returns g c = if_ok c.of_answer.result (λ reply told. record {
  answer = c.finish.result;
  judged = (c.finish.ensures.answer [] c.finish.result c.new.ensures).0 refl;
  told = told;
}) c.of_answer.ensures
