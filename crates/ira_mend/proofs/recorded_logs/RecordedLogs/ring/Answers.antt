use Rattle.std.proofs.Common.{◌≡◌, ◌∙◌, inl, inr, Some, ap, arith, rules, sym}
use Rattle.std.specs.Prelude.{slice_get}
use Rattle.std.proofs.lemmas.Bool.{cases_eq}
use Rattle.std.proofs.lemmas.Option.{slice_get-get_or, slice_get_within}
use Rattle.ira_mend.specs.declared.recorded_log.RecordedLog.TheVariants as taken
use Rattle.ira_mend.proofs.recorded_logs.RecordedLogs.ring.Goals as goal

pub returns-in-Log : goal.returns-in-Log
returns-in-Log g c =
    let items = c.deref-recorded-items.result.now in
    let i = c.loop-recorded.recorded-index in
    let same = sym c.self.view_is ∙ sym c.deref-recorded-items.ensures.value in
    record {
      number = i;
      log = c.in-Log.log;
      at = ap (λ rs. slice_get rs i) same
          ∙ slice_get-get_or items i c.recorded-item.result c.loop-recorded-test.true
          ∙ ap Some (sym c.recorded-item.is ∙ c.in-Log.is);
      first = λ j other low there. c.loop-recorded.invariant j other low
          (ap (λ rs. slice_get rs j) (sym same) ∙ there);
      valid = c.version.ensures.valid;
      is = search rules;
    }

pub loop-recorded-preserved : goal.loop-recorded-preserved
loop-recorded-preserved g c = λ i log lt at. elim (cases_eq i c.loop-recorded.recorded-index) [
  | inl same ↦
      let items = c.deref-recorded-items.result.now in
      let here = sym at ∙ ap (slice_get items) same
      ∙ slice_get-get_or items c.loop-recorded.recorded-index c.recorded-item.result c.loop-recorded-test.true
      ∙ ap Some (sym c.recorded-item.is) in
      let it : c.recorded-item.result ≡ taken.Log log = cc in
      c.in_default.not-Log log it
  | inr other ↦ c.loop-recorded.invariant i log (omega (arith, lt, other)) at
]

pub returns : goal.returns
returns g c = λ i log at.
    let items = c.deref-recorded-items.result.now in
    let here : slice_get items i ≡ Some (taken.Log log) =
    ap (λ rs. slice_get rs i) (c.deref-recorded-items.ensures.value ∙ c.self.view_is) ∙ at in
    c.loop-recorded.invariant i log (omega (arith, slice_get_within items i _ here, c.loop-recorded-test.false)) here
