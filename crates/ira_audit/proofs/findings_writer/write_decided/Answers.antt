use Rattle.std.proofs.Common.{◌+◌, drop, sym, ap}
use Rattle.std.specs.List.{enumerate_from, flat_map}
use Rattle.std.proofs.lemmas.Result.{err_from_is_err_and}
use Rattle.ira_event.proofs.Rest.{drop-at}
use Rattle.ira_event.proofs.Writing.{HasWritten-more, HasWritten-stops}
use Rattle.ira_audit.specs.FindingsText.{decided_line}
use Rattle.ira_audit.proofs.findings_writer.write_decided.Goals as goal

pub loop-case-preserved : goal.loop-case-preserved
loop-case-preserved g c =
    let xs = c.args.cases.now in
    let i = c.loop-case.case in
    let x = c.index-cases-case.result in
    let next = ap (λ ys. flat_map decided_line (enumerate_from i ys))
    (sym (drop-at xs i x x c.loop-case-test.true c.index-cases-case.is)) in
    HasWritten-more (flat_map decided_line (enumerate_from 0 xs)) (flat_map decided_line (enumerate_from i (drop i xs)))
    (decided_line (i, x)) (flat_map decided_line (enumerate_from (i + 1) (drop (i + 1) xs))) _ _ _ c.loop-case.invariant
    next c.in_ok-write_decided_case.ensures

pub returns-in_err-write_decided_case : goal.returns-in_err-write_decided_case
returns-in_err-write_decided_case g c =
    let stop = err_from_is_err_and c.from_residual.result c.from_residual.ensures.1 in
    let xs = c.args.cases.now in
    let i = c.loop-case.case in
    let x = c.index-cases-case.result in
    let next = ap (λ ys. flat_map decided_line (enumerate_from i ys))
    (sym (drop-at xs i x x c.loop-case-test.true c.index-cases-case.is)) in
    HasWritten-stops _ _ stop.1 (flat_map decided_line (enumerate_from 0 xs))
    (flat_map decided_line (enumerate_from i (drop i xs))) (decided_line (i, x))
    (flat_map decided_line (enumerate_from (i + 1) (drop (i + 1) xs))) _ _ _ c.loop-case.invariant next
    c.in_err-write_decided_case.ensures
