use Rattle.std.proofs.Common.{◌≡◌, ◌∙◌, inl, inr, refl, subst, sym}
use Rattle.ira_event.specs.LogTextFault.{LogTextFault}
use Rattle.ira_event.specs.declared.log_fault.LogFault.TheVariants.{Head}
use Rattle.ira_mend.specs.RecordedLogs.{IsLost, IsRecordOf}
use Rattle.ira_mend.proofs.RecordedTexts.{head_goes_on, not_lost, not_recorded}
use Rattle.ira_mend.proofs.recorded_log.RecordedLog.into_log.Goals as goal

pub returns-in-Some : goal.returns-in-Some
returns-in-Some g c = λ text of.
    let is = subst (IsRecordOf text) c.in-Short.is of in
    let bytes : c.deref.result.now ≡ text = c.deref.ensures.value ∙ sym is.0 in
    let bad = subst (λ t. LogTextFault t Head) (sym bytes) is.1.0 in
    let lost : IsLost c.args.ring c.args.guess c.args.number c.deref.result.now c.in-Some.log =
    rw c.in-Some.is at (c.in_ok-log-in-Short.ensures bad) in
    inr (subst (λ t. IsLost c.args.ring c.args.guess c.args.number t c.in-Some.log) bytes lost)

pub returns-in-Short : goal.returns-in-Short
returns-in-Short g c = λ text of.
    let is = subst (IsRecordOf text) c.in-Short.is of in
    let bytes : c.deref.result.now ≡ text = c.deref.ensures.value ∙ sym is.0 in
    let bad = subst (λ t. LogTextFault t Head) (sym bytes) is.1.0 in
    let none = rw c.in-None.is at (c.in_ok-log-in-Short.ensures bad) in (
      Head,
      refl,
      is.1.0,
      λ log left. elim left [
        | inl whole ↦ not_recorded text log Head is.1.0 head_goes_on whole
        | inr lost ↦
            none log (subst (λ t. IsLost c.args.ring c.args.guess c.args.number t log) (sym bytes) lost)
      ],
    )

pub returns : goal.returns
returns g c = λ text of.
    let is = subst (IsRecordOf text) c.in-Faulty.is of in
    let f = c.in-Faulty.fault in (
      f,
      refl,
      is.0,
      λ log left. elim left [
        | inl whole ↦ not_recorded text log f is.0 is.1 whole
        | inr lost ↦
            not_lost c.args.ring c.args.guess c.args.guess c.args.number c.args.ring.place text log f c.requires is.0 is.2
            lost
      ],
    )
