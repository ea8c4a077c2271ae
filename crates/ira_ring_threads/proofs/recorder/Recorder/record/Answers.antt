use Rattle.std.proofs.Common.{◌<◌, length, refl, sym, subst, arith, ◌∙◌}
use Rattle.ira_ring_threads.specs.Recorder.{Recorder}
use Rattle.ira_ring_threads.proofs.RecorderGrows.{grown}
use Rattle.ira_ring_threads.proofs.recorder.Recorder.record.Goals as goal

pub invariant_of-self : goal.invariant_of-self
invariant_of-self g c =
    let low : length c.self.inside.events.items < c.self.inside.cap =
    (let P : Recorder → Type 0 = λ r. length r.log.events < r.cap in subst P (sym c.self.view_is) c.requires.0) in
    let step = (c.in-Ok.ensures.ok c.in-Ok.state).0 refl in (
      rw c.push_reserved.ensures.items
          (grown _ c.args.event c.in-Ok.state c.self.invariant.0 low c.requires.1 (sym c.is_of_version.ensures
          ∙ c.if-not-is_of_version.false) step),
      omega (arith, c.push_reserved.ensures.capacity, c.self.invariant.1),
    )

pub returns-clause-step : goal.returns-clause-step
returns-clause-step g c = rw (← c.self.view_is) ((c.in-Ok.ensures.ok c.in-Ok.state).0 refl)

pub returns-in_default-clause-err : goal.returns-in_default-clause-err
returns-in_default-clause-err g c =
    rw (← c.self.view_is) (λ has. c.in_default.not-Ok has.0 ((c.step.ensures.ok has.0).1 has.1))

pub returns-then-not-is_of_version-clause-err : goal.returns-then-not-is_of_version-clause-err
returns-then-not-is_of_version-clause-err g c =
    rw (← c.self.view_is) (
      (c.in-Ok.state, (c.in-Ok.ensures.ok c.in-Ok.state).0 refl),
      sym c.is_of_version.ensures ∙ c.if-not-is_of_version.true,
    )
