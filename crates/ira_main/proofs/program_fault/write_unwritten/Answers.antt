use Rattle.std.proofs.lemmas.Result.{err_from_is_err_and}
use Rattle.ira_event.proofs.Writing.{StopsIn-append, Takes-StopsIn, Wrote-then}
use Rattle.ira_main.proofs.program_fault.write_unwritten.Goals as goal

pub returns-in_err-write_bytes : goal.returns-in_err-write_bytes
returns-in_err-write_bytes g c =
    let p = err_from_is_err_and c.from_residual.result c.from_residual.ensures.1 in
    rw p.1 (StopsIn-append _ _ _ _ c.in_err-write_bytes.ensures)

pub returns-in_err-write_shown : goal.returns-in_err-write_shown
returns-in_err-write_shown g c =
    let p = err_from_is_err_and c.from_residual-in_err-write_shown.result c.from_residual-in_err-write_shown.ensures.1 in
    rw p.1 (Takes-StopsIn _ _ _ _ _ c.in_ok-write_bytes.ensures (StopsIn-append _ _ _ _ c.in_err-write_shown.ensures))

pub returns : goal.returns
returns g c =
    Wrote-then _ _ _ _ _ _ c.in_ok-write_bytes.ensures
    (Wrote-then _ _ _ _ _ _ c.in_ok-write_shown.ensures (rw c.log_in_folder.ensures at c.write.ensures))
