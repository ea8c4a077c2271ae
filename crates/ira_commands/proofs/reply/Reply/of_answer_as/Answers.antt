use Rattle.std.proofs.Common.{subst}
use Rattle.ira_view.specs.ViewText.{IsAnswerText}
use Rattle.ira_view.specs.declared.status.Status.{Status}
use Rattle.ira_commands.proofs.Printed.{prints}
use Rattle.ira_commands.specs.Reply.{Prints}
use Rattle.ira_commands.proofs.reply.Reply.of_answer_as.Goals as goal

pub returns : goal.returns
returns g c =
    let IsText = IsAnswerText c.args.form c.args.answer.now in
    let wrote = c.in-Ok.ensures in
    subst (λ (status : Status). Prints IsText status c.printed.result) c.of_answer.ensures
    (prints IsText c.of_answer.result c.printed.result c.new-text.result c.write_answer_as.new.sink c.new-text.ensures
    wrote.0 wrote.1 wrote.2 c.printed.ensures)
