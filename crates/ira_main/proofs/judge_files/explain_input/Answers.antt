use Rattle.std.proofs.Common.{refl}
use Rattle.ira_main.proofs.judge_files.explain_input.Goals as goal

pub returns-in_ok-explain_one-in-Ok-clause-judged : goal.returns-in_ok-explain_one-in-Ok-clause-judged
returns-in_ok-explain_one-in-Ok-clause-judged g c = (
  _,
  rw (← c.bytes.ensures) at (rw c.in-Ok.is at c.in_ok-text.ensures.text),
  (_, (refl, refl), c.in_ok-explain_one-in-Ok.ensures),
)
