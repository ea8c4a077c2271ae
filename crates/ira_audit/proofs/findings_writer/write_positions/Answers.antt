use Rattle.std.proofs.Common.{◌+◌, drop, arith, rules}
use Rattle.std.specs.List.{flat_map}
use Rattle.std.specs.Prelude.{codes}
use Rattle.std.proofs.lemmas.Result.{err_from_is_err_and}
use Rattle.ira_event.proofs.Rest.{next_text}
use Rattle.ira_event.proofs.Writing.{HasWritten-more, HasWritten-stops}
use Rattle.ira_audit.specs.Report.{numbered}
use Rattle.ira_audit.proofs.findings_writer.write_positions.Goals as goal

pub loop-position-preserved : goal.loop-position-preserved
loop-position-preserved g c =
    let f = numbered (codes " ") in
    let xs = c.args.positions.now in
    let i = c.loop-position.position-index in
    HasWritten-more (flat_map f xs) (flat_map f (drop i xs)) (f c.from.result) (flat_map f (drop (i + 1) xs)) _ _ _
    c.loop-position.invariant (next_text f xs i c.from.result 0 (omega arith) (search rules))
    c.in_ok-write_numbered.ensures

pub returns-in_err-write_numbered : goal.returns-in_err-write_numbered
returns-in_err-write_numbered g c =
    let f = numbered (codes " ") in
    let stop = err_from_is_err_and c.from_residual.result c.from_residual.ensures.1 in
    let xs = c.args.positions.now in
    let i = c.loop-position.position-index in
    HasWritten-stops _ _ stop.1 (flat_map f xs) (flat_map f (drop i xs)) (f c.from.result)
    (flat_map f (drop (i + 1) xs)) _ _ _ c.loop-position.invariant
    (next_text f xs i c.from.result 0 (omega arith) (search rules)) c.in_err-write_numbered.ensures
