use Rattle.ira_audit.proofs.NeverMet.{no_case}
use Rattle.ira_audit.specs.declared.answer.Answer.TheVariants.{No, Yes}
use Rattle.ira_commands.proofs.Served.{if_ok}
use Rattle.ira_commands.proofs.check.check_alone.Goals as goal

pub of_answer_as-requires-in-Err-No : goal.of_answer_as-requires-in-Err-No
of_answer_as-requires-in-Err-No g c =
    (rw c.in-Err-No.field-0-is at (c.in-Err-No.ensures c.requires.0 c.requires.1)).1

pub returns-in-Ok : goal.returns-in-Ok
returns-in-Ok g c = λ texts judged.
    let sound = c.in-Ok.ensures texts judged in
    if_ok c.of_answer_as.result (λ reply told. record {
      answer = Yes;
      judged = sound.0;
      never = λ e. no_case texts c.args.question.now c.args.certificate.now sound.0;
      told = told;
    }) c.of_answer_as.ensures

pub returns-in-Err-No : goal.returns-in-Err-No
returns-in-Err-No g c = λ texts judged.
    let why = rw c.in-Err-No.field-0-is at (c.in-Err-No.ensures texts judged) in
    if_ok c.of_answer_as-in-Err-No.result (λ reply told. record {
      answer = No c.in-Err-No.reason;
      judged = why.0;
      never = λ e. absurd cc;
      told = told;
    }) c.of_answer_as-in-Err-No.ensures
