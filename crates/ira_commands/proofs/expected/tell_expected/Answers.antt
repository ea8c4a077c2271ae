use Rattle.std.proofs.Common.{◌∙◌, subst}
use Rattle.ira_view.specs.Status.{IsLeadsStatus}
use Rattle.ira_commands.specs.Expected.TellsExpected.{no_place, told}
use Rattle.ira_commands.proofs.expected.tell_expected.Goals as goal

pub returns-in_default : goal.returns-in_default
returns-in_default g c = no_place (rw c.in_default.is at c.in_ok-differences.ensures) c.refused.ensures

pub returns : goal.returns
returns g c =
    let status = c.of_differences-status.result in
    let lines = c.in_ok-lines.ensures in
    let is = subst (λ w. IsLeadsStatus w status) (c.bytes.ensures.text ∙ lines.2) c.of_differences-status.ensures in
    told lines.0 _ status (lines.1, rw c.in-Some.is at c.in_ok-differences.ensures) is
    (_, rw lines.2 at c.in_ok-text.ensures, c.printed.ensures)
