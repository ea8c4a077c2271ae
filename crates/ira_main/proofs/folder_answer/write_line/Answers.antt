use Rattle.std.proofs.lemmas.Result.{err_from_is_err_and}
use Rattle.ira_event.proofs.Writing.{StopsIn-append, Takes-StopsIn, Wrote-then}
use Rattle.ira_main.proofs.folder_answer.write_line.Goals as goal

pub returns-in_err-write_bytes : goal.returns-in_err-write_bytes
returns-in_err-write_bytes g c =
    let p = err_from_is_err_and c.from_residual-in_err-write_bytes.result c.from_residual-in_err-write_bytes.ensures.1 in
    rw p.1 (Takes-StopsIn _ _ _ _ _ c.in_ok-write_shown.ensures (StopsIn-append _ _ _ _ c.in_err-write_bytes.ensures))

pub returns-in-Ok : goal.returns-in-Ok
returns-in-Ok g c =
    rw c.in-Ok.is (Wrote-then _ _ _ _ _ _ c.in_ok-write_shown.ensures
    (Wrote-then _ _ _ _ _ _ c.in_ok-write_bytes.ensures c.write.ensures))

pub returns-in-Err : goal.returns-in-Err
returns-in-Err g c =
    rw c.in-Err.is (Wrote-then _ _ _ _ _ _ c.in_ok-write_shown.ensures
    (Wrote-then _ _ _ _ _ _ c.in_ok-write_bytes.ensures (rw c.as_str.ensures at c.write_naming.ensures)))
