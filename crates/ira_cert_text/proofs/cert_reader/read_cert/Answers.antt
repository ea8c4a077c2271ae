use Rattle.std.proofs.Common.{◌≡◌, ◌≤◌, length, refl, arith, inl, inr}
use Rattle.std.proofs.lemmas.Result.{err_from_is_err_and}
use Rattle.ira_event.specs.Limits.{MAX_TEXT}
use Rattle.ira_cert_text.proofs.EarlyFaults.{fault_exactly, early_exactly}
use Rattle.ira_cert_text.proofs.CertAnswers.{head_not_read, sections_read, sections_not_read, exactly_ok, exactly_err}
use Rattle.ira_cert_text.specs.CertTextFault.{no_head}
use Rattle.ira_cert_text.proofs.cert_reader.read_cert.Goals as goal

pub returns-in_default-clause-ok : goal.returns-in_default-clause-ok
returns-in_default-clause-ok g c =
    exactly_ok _ c.args.text.now
    (head_not_read c.args.text.now (omega (arith, c.if-text-gt-MAX_TEXT.false)) c.in_default.ensures)

pub returns-in_default-clause-err : goal.returns-in_default-clause-err
returns-in_default-clause-err g c =
    exactly_err _ c.args.text.now
    (head_not_read c.args.text.now (omega (arith, c.if-text-gt-MAX_TEXT.false)) c.in_default.ensures)

pub returns-in_err-sections-clause-ok : goal.returns-in_err-sections-clause-ok
returns-in_err-sections-clause-ok g c =
    let p = err_from_is_err_and c.from_residual.result c.from_residual.ensures.1 in
    let same : p.0 ≡ c.in_err-sections.field-0.0 = p.2 in
    rw (p.1, same) (exactly_ok _ c.args.text.now
    (sections_not_read c.args.text.now c.in-Some.head.nodes c.get.result c.in-Some.head.rest.now c.new.result
    c.in_err-sections.field-0.0 (omega (arith, c.if-text-gt-MAX_TEXT.false)) c.in-Some.ensures c.get.ensures.value
    c.new.ensures c.in_err-sections.ensures))

pub returns-in_err-sections-clause-err : goal.returns-in_err-sections-clause-err
returns-in_err-sections-clause-err g c =
    let p = err_from_is_err_and c.from_residual.result c.from_residual.ensures.1 in
    let same : p.0 ≡ c.in_err-sections.field-0.0 = p.2 in
    rw (p.1, same) (exactly_err _ c.args.text.now
    (sections_not_read c.args.text.now c.in-Some.head.nodes c.get.result c.in-Some.head.rest.now c.new.result
    c.in_err-sections.field-0.0 (omega (arith, c.if-text-gt-MAX_TEXT.false)) c.in-Some.ensures c.get.ensures.value
    c.new.ensures c.in_err-sections.ensures))

pub returns-clause-ok : goal.returns-clause-ok
returns-clause-ok g c =
    let read = sections_read c.args.text.now c.in-Some.head.nodes c.get.result c.in-Some.head.rest.now c.new.result
    c.in_ok-sections.sections.items (omega (arith, c.if-text-gt-MAX_TEXT.false)) c.in-Some.ensures
    c.get.ensures.value c.new.ensures c.in_ok-sections.ensures in
    exactly_ok _ c.args.text.now read

pub returns-clause-err : goal.returns-clause-err
returns-clause-err g c =
    let read = sections_read c.args.text.now c.in-Some.head.nodes c.get.result c.in-Some.head.rest.now c.new.result
    c.in_ok-sections.sections.items (omega (arith, c.if-text-gt-MAX_TEXT.false)) c.in-Some.ensures
    c.get.ensures.value c.new.ensures c.in_ok-sections.ensures in
    exactly_err _ c.args.text.now read

pub returns-then-text-gt-MAX_TEXT-clause-too_long : goal.returns-then-text-gt-MAX_TEXT-clause-too_long
returns-then-text-gt-MAX_TEXT-clause-too_long g c =
    fault_exactly c.args.text.now _ _ (inl (omega (arith, c.if-text-gt-MAX_TEXT.true), refl))

pub returns-in_default-clause-too_long : goal.returns-in_default-clause-too_long
returns-in_default-clause-too_long g c =
    fault_exactly c.args.text.now _ _ (inr (
      omega (arith, c.if-text-gt-MAX_TEXT.false),
      no_head c.in_default.ensures refl,
    ))

pub returns-in_err-sections-clause-too_long : goal.returns-in_err-sections-clause-too_long
returns-in_err-sections-clause-too_long g c =
    let p = err_from_is_err_and c.from_residual.result c.from_residual.ensures.1 in
    let same : p.0 ≡ c.in_err-sections.field-0.0 = p.2 in
    let short : length c.args.text.now ≤ MAX_TEXT = omega (arith, c.if-text-gt-MAX_TEXT.false) in
    rw (p.1, same) (early_exactly _ c.args.text.now _
    (sections_not_read c.args.text.now c.in-Some.head.nodes c.get.result c.in-Some.head.rest.now c.new.result
    c.in_err-sections.field-0.0 short c.in-Some.ensures c.get.ensures.value c.new.ensures c.in_err-sections.ensures)
    (short, _, _, c.in-Some.ensures) (inl refl))

pub returns-clause-too_long : goal.returns-clause-too_long
returns-clause-too_long g c =
    let short : length c.args.text.now ≤ MAX_TEXT = omega (arith, c.if-text-gt-MAX_TEXT.false) in
    let read = sections_read c.args.text.now c.in-Some.head.nodes c.get.result c.in-Some.head.rest.now c.new.result
    c.in_ok-sections.sections.items short c.in-Some.ensures c.get.ensures.value c.new.ensures
    c.in_ok-sections.ensures in
    early_exactly _ c.args.text.now _ read (short, _, _, c.in-Some.ensures) (inl refl)

pub returns-then-text-gt-MAX_TEXT-clause-head : goal.returns-then-text-gt-MAX_TEXT-clause-head
returns-then-text-gt-MAX_TEXT-clause-head g c =
    fault_exactly c.args.text.now _ _ (inl (omega (arith, c.if-text-gt-MAX_TEXT.true), refl))

pub returns-in_default-clause-head : goal.returns-in_default-clause-head
returns-in_default-clause-head g c =
    fault_exactly c.args.text.now _ _ (inr (
      omega (arith, c.if-text-gt-MAX_TEXT.false),
      no_head c.in_default.ensures refl,
    ))

pub returns-in_err-sections-clause-head : goal.returns-in_err-sections-clause-head
returns-in_err-sections-clause-head g c =
    let p = err_from_is_err_and c.from_residual.result c.from_residual.ensures.1 in
    let same : p.0 ≡ c.in_err-sections.field-0.0 = p.2 in
    let short : length c.args.text.now ≤ MAX_TEXT = omega (arith, c.if-text-gt-MAX_TEXT.false) in
    rw (p.1, same) (early_exactly _ c.args.text.now _
    (sections_not_read c.args.text.now c.in-Some.head.nodes c.get.result c.in-Some.head.rest.now c.new.result
    c.in_err-sections.field-0.0 short c.in-Some.ensures c.get.ensures.value c.new.ensures c.in_err-sections.ensures)
    (short, _, _, c.in-Some.ensures) (inr refl))

pub returns-clause-head : goal.returns-clause-head
returns-clause-head g c =
    let short : length c.args.text.now ≤ MAX_TEXT = omega (arith, c.if-text-gt-MAX_TEXT.false) in
    let read = sections_read c.args.text.now c.in-Some.head.nodes c.get.result c.in-Some.head.rest.now c.new.result
    c.in_ok-sections.sections.items short c.in-Some.ensures c.get.ensures.value c.new.ensures
    c.in_ok-sections.ensures in
    early_exactly _ c.args.text.now _ read (short, _, _, c.in-Some.ensures) (inr refl)
