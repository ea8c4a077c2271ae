use Rattle.std.proofs.Common.{Ok, ap, refl}
use Rattle.ira_event.proofs.Unless.{unless_ok}
use Rattle.ira_commands.proofs.Served.{if_ok}
use Rattle.ira_main.proofs.judge_files.check_given.Goals as goal

pub of_answer_as-requires : goal.of_answer_as-requires
of_answer_as-requires g c =
    c.in_ok-answer.ensures.reportable c.requires.taken.0 (c.in_ok-judged.ensures c.requires.taken.0 c.requires.taken.1)

pub returns : goal.returns
returns g c = λ texts taken.
    let judged = c.in_ok-judged.ensures texts taken in
    let answer = c.in_ok-answer.answer in
    if_ok c.of_answer_as.result (λ reply told. record {
      answer = answer;
      judged = rw (c.bytes-question.ensures, c.bytes-certificate.ensures)
          at ((unless_ok answer _ _ (c.in_ok-answer.ensures.answer texts answer judged)).0 refl);
      never = λ e. rw (c.bytes-question.ensures, c.bytes-certificate.ensures)
          at (c.in_ok-answer.ensures.yes texts judged (ap Ok e));
      told = told;
    }) (rw c.of_json.ensures at c.of_answer_as.ensures)
