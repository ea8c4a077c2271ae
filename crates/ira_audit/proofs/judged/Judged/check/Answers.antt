use Rattle.std.proofs.Common.{sym, ◌∙◌}
use Rattle.ira_audit.specs.declared.answer.Answer.TheVariants.{Yes}
use Rattle.ira_audit.specs.CheckAnswer.{IsCheckAnswer}
use Rattle.ira_audit.specs.Report.{IsReportable}
use Rattle.ira_audit.proofs.Judging.{exactly_unless, ok_also, ok_holds}
use Rattle.ira_audit.proofs.NeverMet.{no_case}
use Rattle.ira_audit.proofs.OneAuditAnswer.{one_audit_answer}
use Rattle.ira_audit.proofs.judged.Judged.check.Goals as goal

pub returns-clause-answer : goal.returns-clause-answer
returns-clause-answer g c = λ texts a is.
    let question = c.args.question.now in
    let certificate = c.args.certificate.now in
    rw c.answer_of.ensures (exactly_unless (IsCheckAnswer texts question certificate) IsReportable
    (one_audit_answer texts question certificate) _ (c.certify.ensures texts is) a)

pub returns-clause-reportable : goal.returns-clause-reportable
returns-clause-reportable g c = λ texts is.
    rw c.answer_of.ensures (ok_also (IsCheckAnswer texts c.args.question.now c.args.certificate.now) IsReportable _
    (c.certify.ensures texts is))

pub returns-clause-yes : goal.returns-clause-yes
returns-clause-yes g c = λ texts is e.
    let question = c.args.question.now in
    let certificate = c.args.certificate.now in
    no_case texts question certificate (ok_holds (IsCheckAnswer texts question certificate) IsReportable _
    (c.certify.ensures texts is) Yes (sym c.answer_of.ensures ∙ e))
