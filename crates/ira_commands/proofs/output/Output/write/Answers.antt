use Rattle.std.proofs.Common.{inl, refl}
use Rattle.std.proofs.lemmas.Result.{err_from_is_err_and}
use Rattle.ira_commands.proofs.output.Output.write.Goals as goal

pub returns-in_err-write_bytes-in-Text : goal.returns-in_err-write_bytes-in-Text
returns-in_err-write_bytes-in-Text g c =
    let p = err_from_is_err_and c.from_residual.result c.from_residual.ensures.1 in
    rw (c.in-Text.is, p.1, p.2) (_, refl, rw c.bytes.ensures at c.in_err-write_bytes-in-Text.ensures)

pub returns-in_ok-write_bytes-in-Text : goal.returns-in_ok-write_bytes-in-Text
returns-in_ok-write_bytes-in-Text g c =
    rw c.in-Text.is (_, refl, rw c.bytes.ensures at c.in_ok-write_bytes-in-Text.ensures)

pub returns-in_ok-clone-in-Events : goal.returns-in_ok-clone-in-Events
returns-in_ok-clone-in-Events g c = rw c.in-Events.is c.write_events.ensures

pub returns-in_err-clone-in-Events : goal.returns-in_err-clone-in-Events
returns-in_err-clone-in-Events g c =
    let p = err_from_is_err_and c.from_residual-in_err-clone-in-Events.result
    c.from_residual-in_err-clone-in-Events.ensures.1 in
    rw (c.in-Events.is, p.1, p.2) (inl refl)

pub returns-in-Json : goal.returns-in-Json
returns-in-Json g c = rw c.in-Json.is c.write.ensures
