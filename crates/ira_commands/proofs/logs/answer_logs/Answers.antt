use Rattle.std.proofs.Common.{refl}
use Rattle.ira_commands.proofs.Served.{if_ok}
use Rattle.ira_commands.proofs.logs.answer_logs.Goals as goal

pub of_answer_as-requires : goal.of_answer_as-requires
of_answer_as-requires g c = c.answer.ensures.reportable c.requires.0 c.requires.1

pub returns : goal.returns
returns g c = λ texts judged.
    if_ok c.of_answer_as.result (λ reply told. record {
      answer = c.answer.result;
      judged = (c.answer.ensures.answer texts c.answer.result judged).0 refl;
      runs = c.answer.ensures.runs texts judged;
      told = told;
    }) c.of_answer_as.ensures
