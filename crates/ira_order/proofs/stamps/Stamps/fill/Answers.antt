use Rattle.std.proofs.Common.{◌≡◌, ℕ, ◌+◌, get_or, length, ◌∙◌, ap, arith, rules, set, subst, sym, take, Some, slice_get}
use Rattle.ira_event.specs.declared.event.Event.TheVariants.{Sent}
use Rattle.ira_order.specs.Ring.{log_of, events_of}
use Rattle.ira_order.specs.declared.tally.Tally.{Tally}
use Rattle.ira_order.specs.Order.{occurrences}
use Rattle.ira_order.specs.OrderPrefix.{IsOrderPrefix}
use Rattle.ira_order.specs.Tally.{tallied}
use Rattle.ira_order.proofs.Filling.{filled_all, filled_none, counts_none, received_stamped, stamps_kept}
use Rattle.ira_order.proofs.Filling.{one_stamp_more, goes_on, few, event_read, node_read, tally_read}
use Rattle.ira_order.proofs.Filling.{next_prefix, stamps_stay, stamps_more}
use Rattle.ira_order.proofs.stamps.Stamps.fill.Goals as goal
use Rattle.ira_order.proofs.stamps.Stamps.fill.Goals.{in-Sent+in_ok-stamp, in_default}

pub overflow_add-number : goal.overflow_add-number
overflow_add-number g c =
    let read : c.index.result.now
    ≡ get_or c.loop-place.tallies.items (get_or c.args.schedule.now c.loop-place.place-index 0)
    c.index.result.now = search rules in
    let low = few c.args.logs.now c.args.schedule.now c.requires.ordered c.loop-place.place-index (search rules) _ c.loop-place.invariant.prefix c.index.result.now read in
    omega (arith, low.0)

pub event-event-requires : goal.event-event-requires
event-event-requires g c =
    let read : c.index.result.now
    ≡ get_or c.loop-place.tallies.items (get_or c.args.schedule.now c.loop-place.place-index 0)
    c.index.result.now = search rules in
    let is = tally_read c.args.logs.now c.args.schedule.now c.requires.ordered c.loop-place.place-index (search rules) _ c.loop-place.invariant.prefix c.index.result.now read in
    let more = goes_on c.args.logs.now c.args.schedule.now c.requires.ordered c.loop-place.place-index (search rules) _ c.loop-place.invariant.prefix in
    let events_are = ap (λ o. length (events_of o)) c.log.ensures.value in
    (omega arith, omega (arith, is.made, more, events_are))

pub stamp-requires-clause-received : goal.stamp-requires-clause-received
stamp-requires-clause-received g c =
    let read : c.index.result.now
    ≡ get_or c.loop-place.tallies.items (get_or c.args.schedule.now c.loop-place.place-index 0)
    c.index.result.now = search rules in
    let is = tally_read c.args.logs.now c.args.schedule.now c.requires.ordered c.loop-place.place-index (search rules) _ c.loop-place.invariant.prefix c.index.result.now read in
    received_stamped c.args.logs.now c.args.schedule.now c.requires.ordered c.loop-place.place-index (search rules) _ c.loop-place.invariant.prefix c.loop-place.self.nodes.items _ is.receipts
    c.loop-place.invariant.have

pub add-requires : goal.add-requires
add-requires g c =
    let read : c.index.result.now
    ≡ get_or c.loop-place.tallies.items (get_or c.args.schedule.now c.loop-place.place-index 0)
    c.index.result.now = search rules in
    let low = few c.args.logs.now c.args.schedule.now c.requires.ordered c.loop-place.place-index (search rules) _
    c.loop-place.invariant.prefix c.index.result.now read in
    record { events = low.0; sendings = low.1; receipts = low.2 }

pub loop-place-preserved : goal.loop-place-preserved
loop-place-preserved g c =
    let read : c.index.result.now
    ≡ get_or c.loop-place.tallies.items (get_or c.args.schedule.now c.loop-place.place-index 0)
    c.index.result.now = search rules in
    let tally = tally_read c.args.logs.now c.args.schedule.now c.requires.ordered c.loop-place.place-index (search rules)
    _ c.loop-place.invariant.prefix c.index.result.now read in
    let is : slice_get (log_of c.args.logs.now (get_or c.args.schedule.now c.loop-place.place-index 0))
    (occurrences (take c.loop-place.place-index c.args.schedule.now)
    (get_or c.args.schedule.now c.loop-place.place-index 0)) ≡ Some c.event-event.result =
    event_read c.args.logs.now c.args.schedule.now c.requires.ordered c.loop-place.place-index (search rules) _
    c.loop-place.invariant.prefix c.index.result.now.events c.log.result.now c.event-event.result
    c.log.ensures.value tally.made c.event-event.ensures in
    let P : ℕ → Tally → Type 0 = λ n x. IsOrderPrefix c.args.logs.now (record {
      places = take (c.loop-place.place-index + 1) c.args.schedule.now;
      tallies = set c.loop-place.tallies.items n x;
    }) in
    let added = c.add.ensures
    ∙ ap (λ x. tallied x c.event-event.result) (node_read c.args.logs.now c.args.schedule.now c.requires.ordered
    c.loop-place.place-index (search rules) _ c.loop-place.invariant.prefix c.index.result.now read) in
    record {
      table = elim c.match-event.branch [
        | in-Sent+in_ok-stamp w ↦ rw w.self-is w.in_ok-stamp.ensures.table
        | in_default w ↦ rw w.self-is c.loop-place.invariant.table
      ];
      prefix = subst (λ n. P n c.add.new.self) (sym c.from-node.ensures) (subst (P _) (sym added)
          (next_prefix c.args.logs.now c.args.schedule.now c.requires.ordered c.loop-place.place-index (search rules) _
          c.loop-place.invariant.prefix c.event-event.result is));
      have = elim c.match-event.branch [
        | in-Sent+in_ok-stamp w ↦
            let sending : c.event-event.result ≡ Sent w.in-Sent.field-0 = search rules in
            rw w.self-is (one_stamp_more c.args.logs.now c.args.schedule.now c.requires.ordered c.loop-place.place-index
            (search rules) _ c.loop-place.invariant.prefix
            c.loop-place.self.nodes.items _ w.in-Sent.field-0 c.index.result.now.events
            c.index.result.now.receipts c.index.result.now.sendings
            (is ∙ ap Some sending) tally.made tally.receipts tally.sendings w.in_ok-stamp.ensures c.loop-place.invariant.stamped
            c.loop-place.invariant.have)
        | in_default w ↦
            rw w.self-is (stamps_kept c.args.logs.now c.args.schedule.now c.requires.ordered c.loop-place.place-index
            (search rules) _ c.loop-place.invariant.prefix
            c.event-event.result is c.loop-place.self.nodes.items (search rules) c.loop-place.invariant.stamped
            c.loop-place.invariant.have)
      ];
      stamped = elim c.match-event.branch [
        | in-Sent+in_ok-stamp w ↦
            let sending : c.event-event.result ≡ Sent w.in-Sent.field-0 = search rules in
            rw w.self-is (stamps_more c.args.logs.now c.args.schedule.now c.requires.ordered c.loop-place.place-index
            (search rules) _ c.loop-place.invariant.prefix
            c.loop-place.self.nodes.items _ w.in-Sent.field-0 c.index.result.now.events
            c.index.result.now.receipts c.index.result.now.sendings
            (is ∙ ap Some sending) tally.made tally.receipts tally.sendings w.in_ok-stamp.ensures c.loop-place.invariant.stamped
            c.loop-place.invariant.have)
        | in_default w ↦
            rw w.self-is (stamps_stay c.args.logs.now c.args.schedule.now c.requires.ordered c.loop-place.place-index
            (search rules) _ c.loop-place.invariant.prefix
            c.event-event.result is c.loop-place.self.nodes.items (search rules) c.loop-place.invariant.stamped)
      ];
    }

pub returns : goal.returns
returns g c =
    filled_all c.args.logs.now c.args.schedule.now c.requires.ordered c.loop-place.self.nodes.items
    c.loop-place.place-index (search rules) c.loop-place.invariant.table c.loop-place.invariant.have
    c.loop-place.invariant.stamped

pub loop-place-init : goal.loop-place-init
loop-place-init g c = record {
  table = c.requires.unstamped.table;
  prefix = c.requires.start;
  have = filled_none c.args.logs.now c.args.schedule.now c.requires.ordered c.args.self.now.nodes.items
      c.requires.unstamped;
  stamped = counts_none c.args.logs.now c.args.schedule.now c.requires.ordered c.args.self.now.nodes.items;
}
