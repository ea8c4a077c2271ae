use Rattle.std.proofs.Common.{◌∙◌, ap}
use Rattle.std.specs.List.{list_any}
use Rattle.ira_audit.specs.Findings.{is_present}
use Rattle.ira_audit.proofs.MadeCertificates.{absent_exactly}
use Rattle.ira_audit.proofs.findings.Findings.are_absent.Goals as goal

pub returns-in-Cases : goal.returns-in-Cases
returns-in-Cases g c =
    rw c.in-Cases.is (absent_exactly c.in-Cases.found.items c.has_present.result (c.has_present.ensures
    ∙ ap (list_any is_present) c.deref.ensures.value))
