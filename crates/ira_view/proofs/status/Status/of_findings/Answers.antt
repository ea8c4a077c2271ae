use Rattle.ira_view.proofs.Statuses.{findings_status}
use Rattle.ira_view.proofs.status.Status.of_findings.Goals as goal

pub returns : goal.returns
returns g c =
    findings_status c.args.findings.now c.are_absent.result c.of_absent.result c.are_absent.ensures
    c.of_absent.ensures.yes c.of_absent.ensures.no
