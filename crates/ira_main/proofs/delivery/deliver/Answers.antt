use Rattle.std.proofs.Common.{refl}
use Rattle.std.proofs.lemmas.Result.{err_from_is_err_and}
use Rattle.ira_main.proofs.delivery.deliver.Goals as goal

pub returns-in_err-answered : goal.returns-in_err-answered
returns-in_err-answered g c =
    let p = err_from_is_err_and c.from_residual.result c.from_residual.ensures.1 in
    rw (c.in_err-answered.was, p.1, p.2) (refl, refl)

pub returns-in_err-reply : goal.returns-in_err-reply
returns-in_err-reply g c =
    let p = err_from_is_err_and c.from_residual-in_err-reply.result c.from_residual-in_err-reply.ensures.1 in
    rw (c.in_ok-answered.was, c.in_err-reply.was, p.1, p.2) (refl, refl)

pub returns : goal.returns
returns g c = rw (c.in_ok-answered.was, c.in_ok-reply.was) c.print.ensures
