use Rattle.std.proofs.Common.{◌≡◌, ℕ, inr, subst}
use Rattle.std.proofs.lemmas.Result.{err_from_is_err_and}
use Rattle.ira_mend.specs.RecordedLogs.{HasReadLines}
use Rattle.ira_mend.proofs.RecordedTexts.{lines_are_log, lines_not_recorded, lines_recorded, opening_recorded}
use Rattle.ira_mend.proofs.recorded_log.read_recorded.Goals as goal

pub returns-in_err-head : goal.returns-in_err-head
returns-in_err-head g c =
    let p = err_from_is_err_and c.from_residual.result c.from_residual.ensures.1 in
    let same : p.0 ≡ c.in_err-head.field-0.0 = p.2 in
    rw (p.1, same) (inr (opening_recorded _ _ c.in_err-head.ensures))

pub returns-in_err-events : goal.returns-in_err-events
returns-in_err-events g c =
    let p = err_from_is_err_and c.from_residual-in_err-events.result c.from_residual-in_err-events.ensures.1 in
    let same : p.0 ≡ c.in_err-events.field-0.0 = p.2 in
    rw (p.1, same) (lines_not_recorded c.args.text.now _ _ _ _ c.in_ok-head.ensures.0 c.in_ok-head.ensures.1
    c.in_ok-head.ensures.3 c.in_err-events.ensures)

pub of_records-requires : goal.of_records-requires
of_records-requires g c =
    lines_are_log c.args.text.now c.in_ok-head.head _ c.in_ok-events.events c.in_ok-head.ensures.1
    (subst (λ (v : ℕ). HasReadLines v c.in_ok-head.records.rest c.in_ok-events.events) c.in_ok-head.ensures.3
    c.in_ok-events.ensures)

pub returns : goal.returns
returns g c =
    rw c.of_records.ensures (lines_recorded c.args.text.now c.in_ok-head.head _ c.in_ok-events.events
    c.in_ok-head.ensures.0 c.in_ok-head.ensures.1
    (subst (λ (v : ℕ). HasReadLines v c.in_ok-head.records.rest c.in_ok-events.events) c.in_ok-head.ensures.3
    c.in_ok-events.ensures))
