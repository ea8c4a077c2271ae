use Rattle.ira_view.specs.ViewText.{IsFindingsViewText}
use Rattle.ira_commands.proofs.Printed.{prints}
use Rattle.ira_commands.proofs.explain_question.tell_findings.Goals as goal

pub returns : goal.returns
returns g c =
    let view = c.args.view.now in
    let wrote = c.in-Ok.ensures in (
      c.of_findings.result,
      c.of_findings.ensures,
      prints (IsFindingsViewText c.args.form view.findings view.explanation) c.of_findings.result
          c.printed.result c.new-text.result c.write_findings_view_as.new.sink c.new-text.ensures wrote.0 wrote.1
          wrote.2 c.printed.ensures,
    )
