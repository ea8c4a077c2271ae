use Rattle.std.proofs.Common.{◌≡◌, ◌∙◌, ◌+◌, ◌-◌, Some, None, ap, arith, length, subst}
use Rattle.std.specs.Prelude.{slice_get}
use Rattle.std.proofs.lemmas.Option.{slice_get_within}
use Rattle.ira_event.specs.declared.event.Event.TheVariants.{Got}
use Rattle.ira_order.specs.Matching.{receipt, sent}
use Rattle.ira_order.specs.Ring.{events_of, log_of, numbered, prev}
use Rattle.ira_order.proofs.OrderPrefixes.{rank_le}
use Rattle.ira_view_evidence.specs.Exchange.{IsNthSending}
use Rattle.ira_view_evidence.proofs.StuckNodes.{has_sending, stuck_here}
use Rattle.ira_view_evidence.proofs.circle_evidence.stuck_at.Goals as goal

pub overflow_add-position : goal.overflow_add-position
overflow_add-position g c =
    let events : log_of c.args.logs.now c.args.place ≡ c.log-log.result.now.events =
    ap events_of c.log-log.ensures.value in
    omega (
      arith,
      slice_get_within (log_of c.args.logs.now c.args.place) c.args.tally.events _ c.requires.waiting.receives,
      ap length events,
      (c.log-log.ensures.valid.valid c.args.place c.log-log.result.now c.log-log.ensures.value).count,
    )

pub event-requires : goal.event-requires
event-requires g c =
    let events : log_of c.args.logs.now c.args.place ≡ c.log-log.result.now.events =
    ap events_of c.log-log.ensures.value in
    omega (
      arith,
      ap length events,
      slice_get_within (log_of c.args.logs.now c.args.place) c.args.tally.events _ c.requires.waiting.receives,
    )

pub overflow_add-tally : goal.overflow_add-tally
overflow_add-tally g c =
    let events : log_of c.args.logs.now c.args.place ≡ c.log-log.result.now.events =
    ap events_of c.log-log.ensures.value in
    omega (
      arith,
      slice_get_within (log_of c.args.logs.now c.args.place) c.args.tally.events _ c.requires.waiting.receives,
      c.requires.received,
      rank_le receipt (log_of c.args.logs.now c.args.place) c.args.tally.events,
      ap length events,
      (c.log-log.ensures.valid.valid c.args.place c.log-log.result.now c.log-log.ensures.value).count,
    )

pub unreachable-requires-in_default-nth_sending : goal.unreachable-requires-in_default-nth_sending
unreachable-requires-in_default-nth_sending g c =
    let writer : c.predecessor-writer.result ≡ prev (length c.args.logs.now) c.args.place =
    c.predecessor-writer.ensures.value ∙ ap (λ n. prev n c.args.place) (c.get.ensures.value ∙ c.size.ensures.value) in
    let some = has_sending c.args.logs.now c.args.place c.args.tally c.requires.place c.requires.received
    c.requires.waiting in
    let there : numbered (sent (log_of c.args.logs.now (prev (length c.args.logs.now) c.args.place)))
    (c.args.tally.receipts + 1) ≡ Some some.0 = some.1 in
    let none : numbered (sent (log_of c.args.logs.now (prev (length c.args.logs.now) c.args.place)))
    (c.args.tally.receipts + 1) ≡ None = rw writer at c.in_default-nth_sending.ensures in
    cc

pub returns : goal.returns
returns g c =
    let writer : c.predecessor-writer.result ≡ prev (length c.args.logs.now) c.args.place =
    c.predecessor-writer.ensures.value ∙ ap (λ n. prev n c.args.place) (c.get.ensures.value ∙ c.size.ensures.value) in
    let sends : IsNthSending c.args.logs.now (prev (length c.args.logs.now) c.args.place) (c.args.tally.receipts + 1)
    c.in-Some.sending = rw writer at c.in-Some.ensures in
    let back : c.args.tally.events + 1 - 1 ≡ c.args.tally.events = omega arith in
    let events : log_of c.args.logs.now c.args.place ≡ c.log-log.result.now.events =
    ap events_of c.log-log.ensures.value in
    let at : slice_get c.log-log.result.now.events c.args.tally.events ≡ Some (Got c.in-Got.load) =
    subst (λ n. slice_get c.log-log.result.now.events n ≡ Some (Got c.in-Got.load)) back c.in-Got.ensures in
    stuck_here c.args.logs.now c.args.place c.args.tally c.requires.place c.requires.received c.requires.waiting
    c.in-Some.sending c.in-Got.load sends (rw events at)
