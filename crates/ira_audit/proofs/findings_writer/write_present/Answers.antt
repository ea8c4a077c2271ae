use Rattle.std.specs.List.{flat_map}
use Rattle.std.specs.Prelude.{codes}
use Rattle.std.proofs.lemmas.Result.{err_from_is_err_and}
use Rattle.ira_event.proofs.Writing.{StopsIn-append, Wrote-then}
use Rattle.ira_audit.specs.Report.{numbered}
use Rattle.ira_audit.proofs.findings_writer.write_present.Goals as goal

pub returns-in_err-write_bytes : goal.returns-in_err-write_bytes
returns-in_err-write_bytes g c =
    let stop = err_from_is_err_and c.from_residual.result c.from_residual.ensures.1 in
    rw stop.1 (StopsIn-append _ _ (codes ": present at") (flat_map (numbered (codes " ")) c.args.cut.now)
    c.in_err-write_bytes.ensures)

pub returns : goal.returns
returns g c =
    rw (← c.positions.ensures)
    (Wrote-then c.write_positions.result _ _ _ (codes ": present at")
    (flat_map (numbered (codes " ")) c.positions.result.now) c.in_ok-write_bytes.ensures c.write_positions.ensures)
