use Rattle.std.proofs.Common.{◌≡◌, ◌∙◌, ap, sym}
use Rattle.std.proofs.lemmas.Result.{err_from_is_err_and}
use Rattle.ira_event.proofs.LogAnswers.{opening_fault}
use Rattle.ira_audit.proofs.LogAudits.{begun_longer, lines_begun, none_taken}
use Rattle.ira_audit.proofs.log_audit.LogAudit.open.Goals as goal

pub returns-clause-begun : goal.returns-clause-begun
returns-clause-begun c = λ text h.
    let lines = lines_begun c.args.self.now.replay c.in-Some.replay text (sym (ap (λ a. a.replay) c.self.view_is)
    ∙ c.in-Some.is) h.1 in
    rw (c.with.ensures.same, c.with.ensures.records) (begun_longer text c.args.rest.now c.in-Some.replay _ _ lines)

pub returns-in_err-head-clause-begun : goal.returns-in_err-head-clause-begun
returns-in_err-head-clause-begun c = λ text h.
    let p = err_from_is_err_and c.from_residual.result c.from_residual.ensures.1 in
    let same : p.0 ≡ c.in_err-head.field-0.0 = p.2 in
    let none = none_taken c.args.self.now.replay text (sym (ap (λ a. a.replay) c.self.view_is) ∙ c.in_default.is) h.1 in
    rw (p.1, same, none) (opening_fault _ _ c.in_err-head.ensures)
