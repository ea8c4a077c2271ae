use Rattle.std.proofs.lemmas.Result.{err_from_is_err_and}
use Rattle.ira_commands.proofs.Outputs.{events_unbegun, events_written}
use Rattle.ira_commands.proofs.output.write_events.Goals as goal

pub returns-in_err-write_view : goal.returns-in_err-write_view
returns-in_err-write_view g c =
    let p = err_from_is_err_and c.from_residual.result c.from_residual.ensures.1 in
    rw (p.1, p.2) (events_unbegun c.args.ring.now c.args.differences.now _ _ c.bytes.ensures.printable
    (rw c.bytes.ensures.text at c.in_err-write_view.ensures))

pub returns : goal.returns
returns g c =
    events_written c.args.ring.now c.args.differences.now c.write_events.result _ _ _ c.bytes.ensures.printable
    (rw c.bytes.ensures.text at c.in_ok-write_view.ensures) c.write_events.ensures.showed c.write_events.ensures.told
