use Rattle.std.proofs.Common.{◌≡◌, ◌∙◌, ◌<◌, ap, arith, length, refl, subst, sym}
use Rattle.std.specs.Prelude.{slice_index}
use Rattle.std.proofs.lemmas.List.{length-map}
use Rattle.ira_mend.specs.Beginning.{AreBegun, begun}
use Rattle.ira_mend.specs.Longest.{events_kept, kept_of}
use Rattle.ira_mend.specs.declared.beginning.Beginning.{Beginning}
use Rattle.ira_mend.proofs.Begun.{begun_all, begun_left, begun_more, left_are_logs}
use Rattle.ira_mend.proofs.Settling.{events_at}
use Rattle.ira_mend.proofs.mending.begin_logs.Goals as goal

pub loop-place-preserved : goal.loop-place-preserved
loop-place-preserved g c =
    let logs = c.args.logs.now in
    let kept = c.args.kept.now in
    let place = c.loop-place.place in
    let within : c.loop-place.place < length c.args.kept.now =
    omega (
      arith,
      c.loop-place-test.true,
      c.get-nodes.ensures.value,
      c.size.ensures.value,
      c.requires.places,
      length-map c.args.kept.now (λ (b : Beginning). b.events),
    ) in
    let events : (kept_of c.args.kept.now c.from-in-loop-place.result).events
    ≡ slice_index (events_kept c.args.kept.now) c.loop-place.place =
    ap (λ i. (kept_of c.args.kept.now i).events) c.from-in-loop-place.ensures ∙ sym (events_at kept place within) in
    let is = c.in_ok-begin_log.ensures ∙ ap (begun c.log.result.now) events in
    rw c.in_ok-push.ensures.items
    (begun_more logs (events_kept kept) c.loop-place.begun.items place c.log.result.now c.in_ok-begin_log.field-0
    c.loop-place.invariant c.log.ensures.value is)

pub unreachable-requires : goal.unreachable-requires
unreachable-requires g c =
    let logs = c.args.logs.now in
    let all : c.loop-place.place ≡ length logs =
    omega (
      arith,
      c.loop-place-test.false,
      c.loop-place.auto.place-end,
      c.get-nodes.ensures.value,
      c.size.ensures.value,
    ) in
    let are_begun = begun_all logs (events_kept c.args.kept.now) c.loop-place.begun.items c.loop-place.place
    c.loop-place.invariant all in
    let are = left_are_logs logs (events_kept c.args.kept.now) c.loop-place.begun.items c.size.ensures.valid
    (begun_left logs (events_kept c.args.kept.now) c.loop-place.begun.items are_begun)
    in
    let ok = (c.gather.ensures.ok c.loop-place.begun.items).1 (refl, are) in
    let bad = c.in-Err.is in
    cc

pub returns : goal.returns
returns g c =
    let logs = c.args.logs.now in
    let all : c.loop-place.place ≡ length logs =
    omega (
      arith,
      c.loop-place-test.false,
      c.loop-place.auto.place-end,
      c.get-nodes.ensures.value,
      c.size.ensures.value,
    ) in
    let are_begun = begun_all logs (events_kept c.args.kept.now) c.loop-place.begun.items c.loop-place.place
    c.loop-place.invariant all in
    let gathered = (c.in-Ok.ensures.ok c.in-Ok.begun).0 refl in
    subst (AreBegun logs (events_kept c.args.kept.now)) (sym gathered.0) are_begun
