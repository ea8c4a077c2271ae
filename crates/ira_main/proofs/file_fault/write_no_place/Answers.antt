use Rattle.std.proofs.lemmas.Result.{err_from_is_err_and}
use Rattle.ira_event.proofs.Writing.{StopsIn-append, Wrote-then}
use Rattle.ira_main.proofs.file_fault.write_no_place.Goals as goal

pub returns-in_err-write : goal.returns-in_err-write
returns-in_err-write g c =
    let p = err_from_is_err_and c.from_residual.result c.from_residual.ensures.1 in
    rw p.1 (StopsIn-append _ _ _ _ (rw c.no_place_in.ensures at c.in_err-write.ensures))

pub returns : goal.returns
returns g c = Wrote-then _ _ _ _ _ _ (rw c.no_place_in.ensures at c.in_ok-write.ensures) c.write_naming.ensures
