use Rattle.std.proofs.Common.{subst}
use Rattle.std.specs.Borrow.{Bor}
use Rattle.std.specs.Option.{option_map}
use Rattle.ira_view_election.specs.Election.{standing_of}
use Rattle.ira_view_election.specs.declared.election.Election.{Election}
use Rattle.ira_view.specs.ViewText.{IsViewText}
use Rattle.ira_view.specs.declared.status.Status.{Status}
use Rattle.ira_commands.proofs.Printed.{prints}
use Rattle.ira_commands.specs.Reply.{Prints}
use Rattle.ira_commands.proofs.explain.tell_view.Goals as goal

pub returns : goal.returns
returns g c =
    let standing = option_map (λ (e : Bor (Election g.row.A.Denot)). standing_of e.now) c.args.election in
    let IsText = IsViewText c.args.form c.args.view.now.answer c.args.view.now.explanation standing in
    let wrote = c.in-Ok.ensures in
    subst (λ (status : Status). Prints IsText status c.printed.result) c.of_answer.ensures
    (prints IsText c.of_answer.result c.printed.result c.new-text.result c.write_view_as.new.sink c.new-text.ensures
    wrote.0 wrote.1 wrote.2 c.printed.ensures)
