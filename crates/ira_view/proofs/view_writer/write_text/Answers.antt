use Rattle.std.proofs.Common.{refl}
use Rattle.std.proofs.lemmas.Result.{err_from_is_err_and}
use Rattle.ira_view.proofs.view_writer.write_text.Goals as goal

pub returns : goal.returns
returns g c = (c.args.text.now, refl, c.in_ok-write_bytes.ensures)

pub returns-in_err-write_bytes : goal.returns-in_err-write_bytes
returns-in_err-write_bytes g c =
    let p = err_from_is_err_and c.from_residual.result c.from_residual.ensures.1 in
    rw (p.1, p.2) (c.args.text.now, refl, c.in_err-write_bytes.ensures)
