use Rattle.std.proofs.Common.{◌∙◌, IfOk, ap, string_bytes, subst}
use Rattle.std.specs.Borrow.{Bor}
use Rattle.std.specs.Option.{option_map}
use Rattle.ira_view_election.specs.Election.{standing_of}
use Rattle.ira_view_election.specs.declared.election.Election.{Election}
use Rattle.ira_view_json.specs.ExplainedValue.{explained_value}
use Rattle.ira_view_json.specs.Line.{IsLineOf}
use Rattle.ira_view.specs.Status.{status_number}
use Rattle.ira_view.proofs.view_writer.view_line.Goals as goal

pub returns : goal.returns
returns g c =
    let answer = c.args.answer.now in
    let explanation = c.args.explanation.now in
    let number = c.number.ensures ∙ ap status_number c.of_answer-status.ensures in
    let standing = option_map (λ (e : Bor (Election g.row.A.Denot)). standing_of e.now) c.args.election in
    subst (λ n. IfOk c.explained_line.result
    (λ line. IsLineOf (explained_value n answer explanation standing) (string_bytes line))) number
    c.explained_line.ensures
