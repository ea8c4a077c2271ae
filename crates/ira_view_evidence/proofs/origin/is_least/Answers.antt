use Rattle.std.proofs.Common.{◌≡◌, arith, true, false}
use Rattle.std.proofs.lemmas.Option.{slice_get_within}
use Rattle.ira_view_evidence.specs.Origin.{HappenedBefore}
use Rattle.ira_view_evidence.proofs.OriginLists.{event_listed, stop_at, stop_listed, stops_below}
use Rattle.ira_view_evidence.proofs.origin.is_least.Goals as goal

pub before-requires-clause-places : goal.before-requires-clause-places
before-requires-clause-places g c = (
  (event_listed (g.H.HappenedBefore.logs_of c.args.ordered.now) c.args.faulty.now c.requires.faulty
      c.loop-event.event-index c.loop-event-test.true).place,
  c.requires.event.place,
)

pub before-requires-clause-first : goal.before-requires-clause-first
before-requires-clause-first g c =
    let event = event_listed (g.H.HappenedBefore.logs_of c.args.ordered.now) c.args.faulty.now c.requires.faulty
    c.loop-event.event-index c.loop-event-test.true in
    (event.first, event.last)

pub returns-then-before : goal.returns-then-before
returns-then-before g c = (
  stop_at c.args.faulty.now c.loop-event.event-index,
  stop_listed (g.H.HappenedBefore.logs_of c.args.ordered.now) c.args.faulty.now c.requires.faulty
      c.loop-event.event-index
      c.loop-event-test.true,
  c.before-in-loop-event.ensures.0 c.if-before.true,
)

pub loop-event-preserved : goal.loop-event-preserved
loop-event-preserved g c =
    stops_below c.args.faulty.now (λ s. HappenedBefore (g.H.HappenedBefore.logs_of c.args.ordered.now) s.at c.args.at
    → ⊥) c.loop-event.event-index c.loop-event-test.true c.loop-event.invariant (λ happened.
    let yes_is : c.before-in-loop-event.result ≡ true = c.before-in-loop-event.ensures.1 happened in
    let no_is : c.before-in-loop-event.result ≡ false = c.if-before.false in
    cc)

pub returns : goal.returns
returns g c = λ s is happened.
    let found = c.requires.faulty.all s is in
    c.loop-event.invariant found.0 s (omega (
      arith,
      c.loop-event-test.false,
      slice_get_within c.args.faulty.now found.0 s found.1,
    )) found.1 happened
