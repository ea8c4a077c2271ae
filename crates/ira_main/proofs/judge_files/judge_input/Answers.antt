use Rattle.std.proofs.Common.{refl}
use Rattle.ira_main.proofs.judge_files.judge_input.Goals as goal

pub returns-in_ok-of_answer-in-Ok-clause-judged : goal.returns-in_ok-of_answer-in-Ok-clause-judged
returns-in_ok-of_answer-in-Ok-clause-judged g c = (
  _,
  rw (← c.bytes.ensures) at (rw c.in-Ok.is at c.in_ok-text.ensures.text),
  record {
    answer = c.in_ok-answer-in-Ok.answer;
    judged = (c.in_ok-answer-in-Ok.ensures.answer c.in_ok-answer-in-Ok.answer).0 refl;
    told = c.in_ok-of_answer-in-Ok.ensures;
  },
)
