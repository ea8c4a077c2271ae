use Rattle.std.proofs.Common.{refl}
use Rattle.std.proofs.lemmas.Result.{err_from_is_err_and}
use Rattle.ira_mend.proofs.Begun.{begun_differ}
use Rattle.ira_mend.proofs.mending.mend.Goals as goal

pub returns-in_err-match_links : goal.returns-in_err-match_links
returns-in_err-match_links g c =
    let p = err_from_is_err_and c.from_residual-in_err-match_links.result c.from_residual-in_err-match_links.ensures.1
    in
    let f = c.in_err-match_links.field-0.0 in
    let fault = (c.in_err-match_links.ensures.fault f).0 refl in
    let it = c.in_ok-mended.ensures in
    rw (p.1, p.2) (begun_differ c.args.logs.now it.cut c.in_ok-mended.mended f it.greatest it.begun fault)

pub returns : goal.returns
returns g c = record { greatest = c.in_ok-mended.ensures; matches = c.in_ok-match_links.ensures.ok.0 refl }
