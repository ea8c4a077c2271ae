use Rattle.std.proofs.Common.{refl, sym}
use Rattle.ira_pred.proofs.QuestionReading.{cut_here, line_here}
use Rattle.ira_pred.proofs.question_lines.complete.Goals as goal

pub returns-in-Some : goal.returns-in-Some
returns-in-Some c = line_here _ c.args.text.now _ c.args.fault (sym c.in-Some.ensures) (λ more. refl)

pub returns-in-None : goal.returns-in-None
returns-in-None c = cut_here _ c.args.text.now _ (sym c.in-None.ensures) refl
