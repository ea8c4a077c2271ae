use Rattle.std.proofs.Common.{◌++◌, codes}
use Rattle.std.proofs.lemmas.Result.{err_from_is_err_and}
use Rattle.ira_event.proofs.Writing.{StopsIn-append, Takes-StopsIn, Takes-append, Wrote-then}
use Rattle.ira_audit.specs.FindingsText.{decided_words}
use Rattle.ira_audit.specs.Report.{numbered}
use Rattle.ira_audit.proofs.findings_writer.write_decided_case.Goals as goal

pub returns-in_err-write_numbered : goal.returns-in_err-write_numbered
returns-in_err-write_numbered g c =
    let head = numbered (codes "case ") c.args.case in
    let words = decided_words c.args.decided.now in
    let stop = err_from_is_err_and c.from_residual.result c.from_residual.ensures.1 in
    rw stop.1 (StopsIn-append _ _ (head ++ words) (codes "\n")
    (StopsIn-append _ _ head words c.in_err-write_numbered.ensures))

pub returns-in_err-write_counted : goal.returns-in_err-write_counted
returns-in_err-write_counted g c =
    let head = numbered (codes "case ") c.args.case in
    let words = decided_words c.args.decided.now in
    let stop = err_from_is_err_and c.from_residual-in_err-write_counted.result
    c.from_residual-in_err-write_counted.ensures.1 in
    rw stop.1 (StopsIn-append _ _ (head ++ words) (codes "\n")
    (Takes-StopsIn _ _ _ head words c.in_ok-write_numbered.ensures c.in_err-write_counted.ensures))

pub returns : goal.returns
returns g c =
    let head = numbered (codes "case ") c.args.case in
    let words = decided_words c.args.decided.now in
    let front = Takes-append _ _ _ head words c.in_ok-write_numbered.ensures c.in_ok-write_counted.ensures in
    Wrote-then c.write_bytes.result _ _ _ (head ++ words) (codes "\n") front c.write_bytes.ensures
