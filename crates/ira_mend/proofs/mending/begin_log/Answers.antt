use Rattle.std.proofs.Common.{◌≡◌, ◌∙◌, ◌+◌, ◌-◌, ◌++◌, ◌∷◌, [], List, Some, ap, arith, refl, subst, take}
use Rattle.std.specs.Prelude.{slice_get}
use Rattle.ira_event.specs.Log.{IsLog}
use Rattle.ira_event.specs.declared.event.Event.{Event}
use Rattle.ira_mend.proofs.Begun.{begun_is_log, first_more}
use Rattle.ira_mend.proofs.mending.begin_log.Goals as goal

pub loop-k-preserved : goal.loop-k-preserved
loop-k-preserved g c =
    let es = c.args.log.now.events in
    let back : (c.loop-k.k + 1) - 1 ≡ c.loop-k.k = omega arith in
    let at = subst (λ n. slice_get c.args.log.now.events n ≡ Some c.event.result) back c.event.ensures in
    c.in_ok-push.ensures.items ∙ ap (λ (xs : List Event). xs ++ c.event.result ∷ []) c.loop-k.invariant
    ∙ first_more es c.loop-k.k c.event.result at

pub of_parts-requires : goal.of_parts-requires
of_parts-requires g c =
    let log = c.args.log.now in
    let end : c.loop-k.k ≡ c.args.events = omega (arith, c.loop-k-test.false, c.loop-k.auto.k-end) in
    let all : c.loop-k.kept.items ≡ take c.args.events c.args.log.now.events =
    c.loop-k.invariant ∙ ap (λ n. take n c.args.log.now.events) end in
    subst (λ l. IsLog l) (rw (
      c.version.ensures.value,
      c.nodes.ensures,
      c.place.ensures.value,
      c.initiator.ensures,
      all,
    ) refl) (begun_is_log log c.args.events c.version.ensures.valid)
