use Rattle.std.proofs.Common.{refl}
use Rattle.std.proofs.lemmas.Result.{err_from_is_err_and}
use Rattle.ira_main.specs.Delivery.RecordsReply.{no_logs, recorded, unwritten}
use Rattle.ira_main.proofs.delivery.record_and_deliver.Goals as goal

pub returns-in_err-answered : goal.returns-in_err-answered
returns-in_err-answered g c =
    let p = err_from_is_err_and c.from_residual.result c.from_residual.ensures.1 in
    rw (c.in_err-answered.was, p.1, p.2) (refl, refl, refl)

pub returns-in_err-reply : goal.returns-in_err-reply
returns-in_err-reply g c =
    let p = err_from_is_err_and c.from_residual-in_err-reply.result c.from_residual-in_err-reply.ensures.1 in
    rw (c.in_ok-answered.was, c.in_err-reply.was, p.1, p.2) (refl, refl, refl)

pub returns-in_default : goal.returns-in_default
returns-in_default g c =
    rw (c.in_ok-answered.was, c.in_ok-reply.was) (no_logs (rw (c.in_default.is, c.files.ensures) at c.logs.ensures) refl c.print.ensures)

pub returns-in_err-write_files : goal.returns-in_err-write_files
returns-in_err-write_files g c =
    let p = err_from_is_err_and c.from_residual-in_err-write_files.result c.from_residual-in_err-write_files.ensures.1 in
    rw (c.in_ok-answered.was, c.in_ok-reply.was, p.1, p.2) (unwritten _ _ (rw (c.in-Some.is, c.files.ensures) at c.logs.ensures)
    c.in_err-write_files.ensures refl refl)

pub returns : goal.returns
returns g c =
    rw (c.in_ok-answered.was, c.in_ok-reply.was) (recorded _ (rw (c.in-Some.is, c.files.ensures) at c.logs.ensures)
    c.in_ok-write_files.ensures c.print-2.ensures)
