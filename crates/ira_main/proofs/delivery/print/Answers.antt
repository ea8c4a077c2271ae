use Rattle.std.proofs.Common.{◌∙◌, Err, Ok, ap, subst}
use Rattle.std.proofs.lemmas.Result.{err_from_is_err_and}
use Rattle.ira_commands.specs.Output.{WroteOutput}
use Rattle.ira_main.proofs.delivery.print.Goals as goal

pub returns-in_err-write : goal.returns-in_err-write
returns-in_err-write g c =
    let p = err_from_is_err_and c.from_residual.result c.from_residual.ensures.1 in (
      Err c.in_err-write.field-0.0,
      subst (λ o. WroteOutput {T = Unit {0}} o (Err c.in_err-write.field-0.0) (g.W.Sink.state c.args.out.now) (g.W.Sink.state c.write.new.sink))
          c.out.ensures c.in_err-write.ensures,
      p.1 ∙ ap (λ f. Err f) p.2,
    )

pub returns : goal.returns
returns g c = (Ok tt, rw c.out.ensures at c.in_ok-write.ensures, c.outcome.ensures)
