use Rattle.std.proofs.Common.{◌≡◌, ◌≤◌, ◌++◌, arith, length, length-append, subst}
use Rattle.std.proofs.lemmas.Result.{err_from_is_err_and}
use Rattle.ira_event.specs.Limits.{MAX_TEXT}
use Rattle.ira_event.specs.Records.{IsEndOrFault}
use Rattle.ira_audit.proofs.LogAudits.{begun_judged, begun_refused}
use Rattle.ira_audit.proofs.log_audit.LogAudit.judge.Goals as goal

pub returns-in_err-end : goal.returns-in_err-end
returns-in_err-end c = λ text h.
    let p = err_from_is_err_and c.from_residual-in_err-end.result c.from_residual-in_err-end.ensures.1 in
    let same : p.0 ≡ c.in_err-end.field-0.0 = p.2 in
    let begun = c.read_on-replay.ensures.begun (text ++ c.args.rest.now) (c.in_ok-replay.ensures.begun text h) in
    let end = subst (IsEndOrFault c.read_on-replay.result.1) c.in_err-end.was c.read_on-replay.ensures.end in
    let short : length (text ++ c.args.rest.now) ≤ MAX_TEXT =
    omega (arith, length-append text c.args.rest.now, h.0, c.in_ok-replay.ensures.short) in
    rw (p.1, same) (begun_refused _ _ _ _ short begun end)

pub returns : goal.returns
returns c = λ text h.
    let begun = c.read_on-replay.ensures.begun (text ++ c.args.rest.now) (c.in_ok-replay.ensures.begun text h) in
    let end = subst (IsEndOrFault c.read_on-replay.result.1) c.in_ok-end.was c.read_on-replay.ensures.end in
    begun_judged _ _ _ _ c.answer.ensures begun end
