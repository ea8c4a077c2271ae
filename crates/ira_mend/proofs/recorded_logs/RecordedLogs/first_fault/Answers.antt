use Rattle.std.proofs.Common.{◌≡◌, ◌∙◌, ◌<◌, ℕ, zero, suc, ap, arith, false, length, nat_eq, refl, Some, subst, sym, true}
use Rattle.std.proofs.lemmas.Bool.Decides.{nat_tests}
use Rattle.std.specs.List.{list_all}
use Rattle.std.specs.Prelude.{slice_get}
use Rattle.std.proofs.lemmas.List.{take_all}
use Rattle.std.proofs.lemmas.Option.{slice_get-get_or}
use Rattle.ira_mend.specs.RecordedLogs.{is_short}
use Rattle.ira_mend.proofs.RecordedTexts.{faulty_first, none_faulty, none_taken, shorts_next}
use Rattle.ira_mend.proofs.recorded_logs.RecordedLogs.first_fault.Goals as goal

pub returns-in-Faulty : goal.returns-in-Faulty
returns-in-Faulty g c = λ texts has.
    let at = slice_get-get_or c.deref-recorded-items.result.now c.loop-number.number c.recorded-item.result
    c.loop-number-test.true ∙ ap Some (sym c.recorded-item.is ∙ c.in-Faulty.is) in
    let here = c.deref-recorded-items.ensures.value ∙ c.self.view_is in
    faulty_first c.args.self.now texts c.loop-number.number c.in-Faulty.fault has
    (ap (λ rs. slice_get rs c.loop-number.number) (sym here) ∙ at) c.loop-number.invariant

pub loop-number-preserved : goal.loop-number-preserved
loop-number-preserved g c =
    let at = slice_get-get_or c.deref-recorded-items.result.now c.loop-number.number c.recorded-item.result
    c.loop-number-test.true ∙ ap Some (sym c.recorded-item.is) in
    let here = c.deref-recorded-items.ensures.value ∙ c.self.view_is in
    shorts_next c.args.self.now c.loop-number.number c.recorded-item.result c.requires
    (ap (λ rs. slice_get rs c.loop-number.number) (sym here) ∙ at) c.in_default.not-Faulty c.loop-number.invariant

none : (n : ℕ) → nat_eq n 0 ≡ true → n ≡ 0
none zero is = refl
none (suc n) is = absurd (grind (arith, nat_tests))

some : (n : ℕ) → nat_eq n 0 ≡ false → 0 < n
some zero is = absurd cc
some (suc n) is = omega arith

pub returns-then-is_empty : goal.returns-then-is_empty
returns-then-is_empty g c = λ texts has.
    let here = c.deref-recorded-items.ensures.value ∙ c.self.view_is in
    let empty = none _ (sym c.is_empty.ensures ∙ c.if-is_empty.true) in
    none_taken c.args.self.now texts has (omega (arith, ap length here, c.deref-recorded-items.ensures.len, empty))

pub returns : goal.returns
returns g c = λ texts has.
    let here = c.deref-recorded-items.ensures.value ∙ c.self.view_is in
    let some = some _ (sym c.is_empty.ensures ∙ c.if-is_empty.false) in
    let all = take_all c.loop-number.number c.args.self.now (omega (arith, ap length here, c.loop-number-test.false)) in
    none_faulty c.args.self.now texts has (subst (λ rs. list_all is_short rs ≡ true) all c.loop-number.invariant)
    (omega (arith, ap length here, c.deref-recorded-items.ensures.len, some))
