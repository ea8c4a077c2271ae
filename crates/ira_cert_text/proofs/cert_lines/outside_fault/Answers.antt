use Rattle.std.proofs.Common.{sym}
use Rattle.ira_cert_text.proofs.Reading.{fault_outside_cut, fault_outside_line}
use Rattle.ira_cert_text.proofs.cert_lines.outside_fault.Goals as goal

pub returns-in-Some : goal.returns-in-Some
returns-in-Some c = λ sections.
    fault_outside_line c.args.number sections c.args.text.now _ c.requires.section c.requires.end
    (sym c.in-Some.ensures)

pub returns-in-None : goal.returns-in-None
returns-in-None c = λ sections. fault_outside_cut c.args.number sections c.args.text.now (sym c.in-None.ensures)
