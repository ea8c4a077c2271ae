use Rattle.std.proofs.Common.{refl}
use Rattle.ira_view_evidence.proofs.OriginLaws.{stop_event}
use Rattle.ira_view_evidence.proofs.OriginLists.{origins_all, origins_more, origins_over, event_listed, no_origins}
use Rattle.ira_view_evidence.proofs.origin.origins.Goals as goal
use Rattle.ira_view_evidence.proofs.origin.origins.Goals.{then-is_least+in_ok-push, else-is_least}

pub loop-event-init : goal.loop-event-init
loop-event-init g c = rw c.new-origins.ensures.items
    (no_origins (g.H.HappenedBefore.logs_of c.args.ordered.now) c.args.named.at c.args.faulty.now)

pub is_least-requires-clause-event : goal.is_least-requires-clause-event
is_least-requires-clause-event g c =
    event_listed (g.H.HappenedBefore.logs_of c.args.ordered.now) c.args.faulty.now c.requires.faulty
    c.loop-event.event-index c.loop-event-test.true

pub before-happened_before-requires-clause-places : goal.before-happened_before-requires-clause-places
before-happened_before-requires-clause-places g c = (
  (event_listed (g.H.HappenedBefore.logs_of c.args.ordered.now) c.args.faulty.now c.requires.faulty
      c.loop-event.event-index c.loop-event-test.true).place,
  (stop_event (g.H.HappenedBefore.logs_of c.args.ordered.now) c.args.named c.requires.named).place,
)

pub before-happened_before-requires-clause-first : goal.before-happened_before-requires-clause-first
before-happened_before-requires-clause-first g c =
    let event = event_listed (g.H.HappenedBefore.logs_of c.args.ordered.now) c.args.faulty.now c.requires.faulty
    c.loop-event.event-index c.loop-event-test.true in
    (event.first, event.last)

pub loop-event-preserved : goal.loop-event-preserved
loop-event-preserved g c =
    elim c.if-is_least.branch [
      | then-is_least+in_ok-push w ↦
          rw (w.origins-is, w.in_ok-push.ensures.items)
          (origins_more (g.H.HappenedBefore.logs_of c.args.ordered.now) c.args.named.at c.args.faulty.now
          c.loop-event.event-index c.loop-event.origins.items c.requires.faulty c.loop-event-test.true
          c.loop-event.invariant _ refl w.if-is_least.ensures w.before-happened_before.ensures)
      | else-is_least w ↦
          let found = w.if-is_least.ensures in
          rw w.origins-is (origins_over (g.H.HappenedBefore.logs_of c.args.ordered.now) c.args.named.at
          c.args.faulty.now c.loop-event.event-index c.loop-event.origins.items c.requires.faulty
          c.loop-event-test.true c.loop-event.invariant found.0 found.1 found.2)
    ]

pub returns : goal.returns
returns g c = origins_all (g.H.HappenedBefore.logs_of c.args.ordered.now) c.args.named.at c.args.faulty.now
    c.loop-event.event-index c.loop-event.origins.items c.requires.faulty c.loop-event-test.false
    c.loop-event.invariant

pub before-happened_before-requires-clause-second : goal.before-happened_before-requires-clause-second
before-happened_before-requires-clause-second g c =
    let event = stop_event (g.H.HappenedBefore.logs_of c.args.ordered.now) c.args.named c.requires.named in
    (event.first, event.last)
