use Rattle.std.proofs.Common.{rules}
use Rattle.ira_audit.proofs.RefusedTexts.{certificate_reason, findings_reason, handed_on, sections_judged}
use Rattle.ira_commands.proofs.check.certify.Goals as goal

pub returns-in_err-asked : goal.returns-in_err-asked
returns-in_err-asked g c = λ texts is.
    handed_on _ _ _ c.from_residual.result c.in_err-asked.field-0.0 (search rules) (c.in_err-asked.ensures texts is)
    (findings_reason texts c.args.question.now c.args.certificate.now)

pub returns-in_err-certificate : goal.returns-in_err-certificate
returns-in_err-certificate g c = λ texts is.
    let asked = c.in_ok-asked.asked in
    handed_on _ _ _ c.from_residual-in_err-certificate.result c.in_err-certificate.field-0.0 (search rules)
    c.in_err-certificate.ensures
    (certificate_reason texts c.args.question.now c.args.certificate.now asked.logs asked.question
    (c.in_ok-asked.ensures texts is))

pub returns : goal.returns
returns g c = λ texts is.
    let asked = c.in_ok-asked.asked in
    let k = c.in_ok-certificate.ensures in
    sections_judged texts c.args.question.now c.args.certificate.now asked.logs asked.question
    (c.in_ok-asked.ensures texts is) c.in_ok-certificate.certificate k.0 k.1 c.check_alone.result c.check_alone.ensures
