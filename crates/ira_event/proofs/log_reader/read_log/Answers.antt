use Rattle.std.proofs.Common.{◌≡◌, ℕ, refl, inl, inr, subst}
use Rattle.ira_event.specs.LogTextFault.{AreAllRecords}
use Rattle.std.proofs.lemmas.Result.{err_from_is_err_and}
use Rattle.ira_event.proofs.EarlyFaults.{fault_exactly, early_exactly}
use Rattle.ira_event.proofs.LogAnswers.{log_read, lines_refused, opening_fault, exactly_ok, exactly_err}
use Rattle.ira_event.proofs.log_reader.read_log.Goals as goal

pub returns-in_err-head-clause-ok : goal.returns-in_err-head-clause-ok
returns-in_err-head-clause-ok g c =
    let p = err_from_is_err_and c.from_residual.result c.from_residual.ensures.1 in
    let same : p.0 ≡ c.in_err-head.field-0.0 = p.2 in
    rw (p.1, same) (exactly_ok _ c.args.text.now (inr (opening_fault _ _ c.in_err-head.ensures)))

pub returns-in_err-head-clause-err : goal.returns-in_err-head-clause-err
returns-in_err-head-clause-err g c =
    let p = err_from_is_err_and c.from_residual.result c.from_residual.ensures.1 in
    let same : p.0 ≡ c.in_err-head.field-0.0 = p.2 in
    rw (p.1, same) (exactly_err _ c.args.text.now (inr (opening_fault _ _ c.in_err-head.ensures)))

pub returns-in_err-events-clause-ok : goal.returns-in_err-events-clause-ok
returns-in_err-events-clause-ok g c =
    let p = err_from_is_err_and c.from_residual-in_err-events.result c.from_residual-in_err-events.ensures.1 in
    let same : p.0 ≡ c.in_err-events.field-0.0 = p.2 in
    rw (p.1, same) (exactly_ok _ c.args.text.now
    (lines_refused c.args.text.now _ _ _ _ c.in_ok-head.ensures.0 c.in_ok-head.ensures.1 c.in_ok-head.ensures.3
    c.in_err-events.ensures))

pub returns-in_err-events-clause-err : goal.returns-in_err-events-clause-err
returns-in_err-events-clause-err g c =
    let p = err_from_is_err_and c.from_residual-in_err-events.result c.from_residual-in_err-events.ensures.1 in
    let same : p.0 ≡ c.in_err-events.field-0.0 = p.2 in
    rw (p.1, same) (exactly_err _ c.args.text.now
    (lines_refused c.args.text.now _ _ _ _ c.in_ok-head.ensures.0 c.in_ok-head.ensures.1 c.in_ok-head.ensures.3
    c.in_err-events.ensures))

pub returns-clause-ok : goal.returns-clause-ok
returns-clause-ok g c =
    rw c.of_records.ensures (exactly_ok _ c.args.text.now
    (log_read c.args.text.now c.in_ok-head.head c.in_ok-head.records.rest c.in_ok-events.events
    c.in_ok-head.ensures.1 (subst (λ (v : ℕ). AreAllRecords v c.in_ok-head.records.rest c.in_ok-events.events)
    c.in_ok-head.ensures.3 c.in_ok-events.ensures)))

pub returns-clause-err : goal.returns-clause-err
returns-clause-err g c =
    rw c.of_records.ensures (exactly_err _ c.args.text.now
    (log_read c.args.text.now c.in_ok-head.head c.in_ok-head.records.rest c.in_ok-events.events
    c.in_ok-head.ensures.1 (subst (λ (v : ℕ). AreAllRecords v c.in_ok-head.records.rest c.in_ok-events.events)
    c.in_ok-head.ensures.3 c.in_ok-events.ensures)))

pub returns-in_err-head-clause-too_long : goal.returns-in_err-head-clause-too_long
returns-in_err-head-clause-too_long g c =
    let p = err_from_is_err_and c.from_residual.result c.from_residual.ensures.1 in
    let same : p.0 ≡ c.in_err-head.field-0.0 = p.2 in
    rw (p.1, same) (fault_exactly c.args.text.now _ _ (opening_fault _ _ c.in_err-head.ensures))

pub returns-in_err-events-clause-too_long : goal.returns-in_err-events-clause-too_long
returns-in_err-events-clause-too_long g c =
    let p = err_from_is_err_and c.from_residual-in_err-events.result c.from_residual-in_err-events.ensures.1 in
    let same : p.0 ≡ c.in_err-events.field-0.0 = p.2 in
    rw (p.1, same) (early_exactly _ c.args.text.now _
    (lines_refused c.args.text.now _ _ _ _ c.in_ok-head.ensures.0 c.in_ok-head.ensures.1 c.in_ok-head.ensures.3
    c.in_err-events.ensures) (c.in_ok-head.ensures.0, _, _, c.in_ok-head.ensures.1) (inl refl))

pub returns-clause-too_long : goal.returns-clause-too_long
returns-clause-too_long g c =
    rw c.of_records.ensures (early_exactly _ c.args.text.now _
    (log_read c.args.text.now c.in_ok-head.head c.in_ok-head.records.rest c.in_ok-events.events
    c.in_ok-head.ensures.1 (subst (λ (v : ℕ). AreAllRecords v c.in_ok-head.records.rest c.in_ok-events.events)
    c.in_ok-head.ensures.3 c.in_ok-events.ensures)) (
      c.in_ok-head.ensures.0,
      _,
      _,
      c.in_ok-head.ensures.1,
    ) (inl refl))

pub returns-in_err-head-clause-head : goal.returns-in_err-head-clause-head
returns-in_err-head-clause-head g c =
    let p = err_from_is_err_and c.from_residual.result c.from_residual.ensures.1 in
    let same : p.0 ≡ c.in_err-head.field-0.0 = p.2 in
    rw (p.1, same) (fault_exactly c.args.text.now _ _ (opening_fault _ _ c.in_err-head.ensures))

pub returns-in_err-events-clause-head : goal.returns-in_err-events-clause-head
returns-in_err-events-clause-head g c =
    let p = err_from_is_err_and c.from_residual-in_err-events.result c.from_residual-in_err-events.ensures.1 in
    let same : p.0 ≡ c.in_err-events.field-0.0 = p.2 in
    rw (p.1, same) (early_exactly _ c.args.text.now _
    (lines_refused c.args.text.now _ _ _ _ c.in_ok-head.ensures.0 c.in_ok-head.ensures.1 c.in_ok-head.ensures.3
    c.in_err-events.ensures) (c.in_ok-head.ensures.0, _, _, c.in_ok-head.ensures.1) (inr refl))

pub returns-clause-head : goal.returns-clause-head
returns-clause-head g c =
    rw c.of_records.ensures (early_exactly _ c.args.text.now _
    (log_read c.args.text.now c.in_ok-head.head c.in_ok-head.records.rest c.in_ok-events.events
    c.in_ok-head.ensures.1 (subst (λ (v : ℕ). AreAllRecords v c.in_ok-head.records.rest c.in_ok-events.events)
    c.in_ok-head.ensures.3 c.in_ok-events.ensures)) (
      c.in_ok-head.ensures.0,
      _,
      _,
      c.in_ok-head.ensures.1,
    ) (inr refl))
