use Rattle.std.proofs.Common.{◌≡◌, ℕ, inr, subst}
use Rattle.ira_event.specs.LogTextFault.{AreAllRecords}
use Rattle.std.proofs.lemmas.Result.{err_from_is_err_and}
use Rattle.ira_event.proofs.LogAnswers.{lines_refused, log_read, opening_fault}
use Rattle.ira_audit.proofs.replayed_log.ReplayedLog.read.Goals as goal

pub returns-in_err-head : goal.returns-in_err-head
returns-in_err-head g c =
    let p = err_from_is_err_and c.from_residual.result c.from_residual.ensures.1 in
    let same : p.0 ≡ c.in_err-head.field-0.0 = p.2 in
    rw (p.1, same) (inr (opening_fault _ _ c.in_err-head.ensures))

pub returns-in_err-events : goal.returns-in_err-events
returns-in_err-events g c =
    let p = err_from_is_err_and c.from_residual-in_err-events.result c.from_residual-in_err-events.ensures.1 in
    let same : p.0 ≡ c.in_err-events.field-0.0 = p.2 in
    rw (p.1, same) (lines_refused c.args.text.now _ _ _ _ c.in_ok-head.ensures.0 c.in_ok-head.ensures.1
    c.in_ok-head.ensures.3 c.in_err-events.ensures.read)

pub returns : goal.returns
returns g c = rw c.of_records-log.ensures
    (log_read c.args.text.now c.in_ok-head.head _ _ c.in_ok-head.ensures.1
    (subst (λ (v : ℕ). AreAllRecords v c.in_ok-head.records.rest c.in_ok-events.events) c.in_ok-head.ensures.3
    c.in_ok-events.ensures.read))
