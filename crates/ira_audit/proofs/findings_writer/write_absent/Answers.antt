use Rattle.std.proofs.Common.{◌≡◌, ◌++◌, codes}
use Rattle.std.proofs.lemmas.Result.{err_from_is_err_and}
use Rattle.ira_event.proofs.Writing.{StopsIn-append, Takes-StopsIn, Takes-append, Wrote-then}
use Rattle.ira_audit.specs.Report.{numbered}
use Rattle.ira_audit.proofs.findings_writer.write_absent.Goals as goal

pub returns-in_err-write_numbered : goal.returns-in_err-write_numbered
returns-in_err-write_numbered g c =
    let steps = numbered (codes ": absent, ") c.args.steps in
    let node = numbered (codes " steps, node ") c.args.spent in
    let stop = err_from_is_err_and c.from_residual.result c.from_residual.ensures.1 in
    rw stop.1 (StopsIn-append _ _ (steps ++ node) (codes " spent")
    (StopsIn-append _ _ steps node c.in_err-write_numbered.ensures))

pub returns-in_err-write_numbered-2 : goal.returns-in_err-write_numbered-2
returns-in_err-write_numbered-2 g c =
    let spent : c.from.result ≡ c.args.spent = c.from.ensures in
    let steps = numbered (codes ": absent, ") c.args.steps in
    let node = numbered (codes " steps, node ") c.from.result in
    let stop = err_from_is_err_and c.from_residual-in_err-write_numbered-2.result
    c.from_residual-in_err-write_numbered-2.ensures.1 in
    rw (← spent, stop.1) (StopsIn-append _ _ (steps ++ node) (codes " spent")
    (Takes-StopsIn _ _ _ steps node c.in_ok-write_numbered.ensures c.in_err-write_numbered-2.ensures))

pub returns : goal.returns
returns g c =
    let spent : c.from.result ≡ c.args.spent = c.from.ensures in
    let steps = numbered (codes ": absent, ") c.args.steps in
    let node = numbered (codes " steps, node ") c.from.result in
    let front = Takes-append _ _ _ steps node c.in_ok-write_numbered.ensures c.in_ok-write_numbered-2.ensures in
    rw (← spent) (Wrote-then c.write_bytes.result _ _ _ (steps ++ node) (codes " spent") front c.write_bytes.ensures)
