use Rattle.std.proofs.Common.{vec_len, List, ℕ, ◌++◌, ◌∷◌, [], ◌∙◌, replicate, take, set, refl, ◌≡◌, ◌-◌, ◌+◌, ◌<◌, ◌≤◌, length}
use Rattle.std.proofs.Common.{get_or, sym, ap, subst, Some, arith, rules}
use Rattle.std.specs.Prelude.{slice_get}
use Rattle.std.proofs.lemmas.Option.{get_or_from_slice_get, slice_get_within}
use Rattle.std.proofs.lemmas.List.{take_all}
use Rattle.ira_event.specs.declared.event.Event.{Event}
use Rattle.ira_order.specs.declared.tally.Tally.{Tally}
use Rattle.ira_order.specs.Order.{occurrences}
use Rattle.ira_order.specs.OrderPrefix.{IsOrderPrefix, IsStuckAt, OrderPrefix}
use Rattle.ira_order.specs.Ring.{prev}
use Rattle.ira_order.specs.Tally.{got_by, sent_by, tallied}
use Rattle.ira_order.proofs.OrderPrefixes.{receives_nothing, sends_nothing}
use Rattle.ira_order.proofs.Tallies.{covered, few_events, few_receipts, few_sendings, once_more, records, run_ends}
use Rattle.ira_order.proofs.Tallies.{run_on, same_tally}
use Rattle.ira_order.proofs.order_prefix.OrderPrefix.advance_node.Goals as goal
use Rattle.ira_order.proofs.order_prefix.OrderPrefix.advance_node.Goals.{in-Got+else-tally-sendings, in_default+in-Sent}
use Rattle.ira_order.proofs.order_prefix.OrderPrefix.advance_node.Goals.{in_default+in_default-event}
use Rattle.ira_order.proofs.order_prefix.OrderPrefix.advance_node.Goals.{else-loop-tally-test}
use Rattle.ira_order.proofs.order_prefix.OrderPrefix.advance_node.Goals.{then-loop-tally-test+in-Got+then-tally-sendings}

pub overflow_add-tally-in-Got : goal.overflow_add-tally-in-Got
overflow_add-tally-in-Got g c =
    omega (
      arith,
      few_receipts _ _ _ _ _ _ c.loop-tally.invariant.prefix c.requires.place c.log-log.ensures.value,
      few_events _ _ _ _ _ _ c.loop-tally.invariant.prefix c.requires.place c.log-log.ensures.value,
      records _ _ _ _ _ _ c.loop-tally.invariant.prefix c.requires.place c.log-log.ensures.value,
    )

pub overflow_add-tally-in-Sent : goal.overflow_add-tally-in-Sent
overflow_add-tally-in-Sent g c =
    omega (
      arith,
      few_sendings _ _ _ _ _ _ c.loop-tally.invariant.prefix c.requires.place c.log-log.ensures.value,
      few_events _ _ _ _ _ _ c.loop-tally.invariant.prefix c.requires.place c.log-log.ensures.value,
      records _ _ _ _ _ _ c.loop-tally.invariant.prefix c.requires.place c.log-log.ensures.value,
    )

pub loop-tally-preserved : goal.loop-tally-preserved
loop-tally-preserved g c =
    let i : ℕ = c.args.i in
    let t : Tally = c.loop-tally.tally in
    let e : Event = c.event-event.result in
    let before : ℕ = c.index-2.result.now.events in
    let writer : c.from.result ≡ prev (length c.args.logs.now) c.args.i =
    c.from.ensures ∙ c.predecessor-writer.ensures.value
    ∙ ap (λ n. prev n c.args.i) (c.get.ensures.value ∙ c.size.ensures.value) in
    let read : c.index.result.now ≡ get_or c.self.inside.tallies.items c.from.result c.index.result.now =
    search rules in
    let back : c.loop-tally.tally.events + 1 - 1 ≡ c.loop-tally.tally.events = omega arith in
    let event_is : slice_get c.log-log.result.now.events c.loop-tally.tally.events ≡ Some c.event-event.result =
    rw back at c.event-event.ensures in
    let few : c.loop-tally.tally.receipts ≤ c.index.result.now.sendings =
    covered _ _ _ _ _ _ c.loop-tally.invariant.prefix c.requires.place c.log-log.ensures.value c.from.result
    c.index.result.now writer read in
    let new : Tally = record {
      events = c.match-event.tally.events + 1;
      sendings = c.match-event.tally.sendings;
      receipts = c.match-event.tally.receipts;
    } in
    let added : (record {
      events = c.match-event.tally.events + 1;
      sendings = c.match-event.tally.sendings;
      receipts = c.match-event.tally.receipts;
    } ≡ tallied c.loop-tally.tally c.event-event.result)
    × (c.loop-tally.tally.receipts + got_by c.event-event.result ≤ c.index.result.now.sendings) =
    elim c.match-event.branch [
      | in-Got+else-tally-sendings w ↦
          let events = ap (λ (x : Tally). x.events) w.tally-is in
          let sendings = ap (λ (x : Tally). x.sendings) w.tally-is in
          let receipts = ap (λ (x : Tally). x.receipts) w.tally-is in
          rw w.in-Got.is (
            same_tally _ _ (omega (arith, events)) (omega (arith, sendings)) (omega (arith, receipts)),
            omega (arith, few, w.if-tally-sendings.false),
          )
      | in_default+in-Sent w ↦
          let events = ap (λ (x : Tally). x.events) w.tally-is in
          let sendings = ap (λ (x : Tally). x.sendings) w.tally-is in
          let receipts = ap (λ (x : Tally). x.receipts) w.tally-is in
          rw w.in-Sent.is (
            same_tally _ _ (omega (arith, events)) (omega (arith, sendings)) (omega (arith, receipts)),
            omega (arith, few),
          )
      | in_default+in_default-event w ↦
          let none_sent : sent_by c.event-event.result ≡ 0 =
          sends_nothing c.event-event.result w.in_default-event.not-Sent in
          let none_got : got_by c.event-event.result ≡ 0 = receives_nothing c.event-event.result w.in_default.not-Got in
          let events = ap (λ (x : Tally). x.events) w.tally-is in
          let sendings = ap (λ (x : Tally). x.sendings) w.tally-is in
          let receipts = ap (λ (x : Tally). x.receipts) w.tally-is in (
            same_tally _ _ (omega (arith, events)) (omega (arith, sendings, none_sent))
                (omega (arith, receipts, none_got)),
            omega (arith, few, none_got),
          )
    ] in
    let events : c.match-event.tally.events + 1 ≡ c.loop-tally.tally.events + 1 =
    ap (λ (x : Tally). x.events) added.0 in
    let places : c.self.inside.places.items
    ++ replicate (c.match-event.tally.events + 1 - c.index-2.result.now.events) c.args.i
    ≡ (c.self.inside.places.items ++ replicate (c.loop-tally.tally.events - c.index-2.result.now.events) c.args.i)
    ++ c.args.i ∷ [] =
    ap (λ n. c.self.inside.places.items ++ replicate (n - c.index-2.result.now.events) c.args.i) events
    ∙ sym (once_more c.self.inside.places.items i before t.events c.loop-tally.invariant.on) in
    let P : List ℕ → Tally → Type 0 = λ ps x. IsOrderPrefix c.args.logs.now (record {
      places = ps;
      tallies = set c.self.inside.tallies.items c.args.i x;
    }) in
    record {
      prefix = subst (λ ps. P ps new) (sym places) (subst (P _) (sym added.0)
          (run_on _ _ _ _ _ _ c.loop-tally.invariant.prefix c.requires.place c.log-log.ensures.value c.from.result
          c.index.result.now writer read e event_is added.1));
      on = omega (arith, c.loop-tally.invariant.on, events);
    }

-- the list was filled up to this length with one place
places_are : (old new : List ℕ) (n len i k : ℕ) → n ≡ length old + k → len ≡ length old
    → new ≡ take n old ++ replicate (n - len) i → new ≡ old ++ replicate k i
places_are old new n len i k n_is len_is e =
    let whole : take n old ≡ old = take_all n old (omega (arith, n_is)) in
    let count : n - len ≡ k = omega (arith, n_is, len_is) in
    e ∙ rw (whole, count) refl

pub returns : goal.returns
returns g c =
    let k : ℕ = c.loop-tally.tally.events - c.index-2.result.now.events in
    let old : List ℕ = c.self.inside.places.items in
    let places : c.resize.new.self.items
    ≡ c.self.inside.places.items
    ++ replicate (c.loop-tally.tally.events - c.index-2.result.now.events) c.args.i =
    places_are old c.resize.new.self.items (c.len-2.result + k) (vec_len c.self.inside.places) c.args.i k
    (omega arith) (omega arith) c.in_ok-resize.ensures.items in
    let P : List ℕ → ℕ → Type 0 = λ ps n. IsOrderPrefix c.args.logs.now (record {
      places = ps;
      tallies = set c.self.inside.tallies.items n c.loop-tally.tally;
    }) in
    let writer : c.from.result ≡ prev (length c.args.logs.now) c.args.i =
    c.from.ensures ∙ c.predecessor-writer.ensures.value
    ∙ ap (λ n. prev n c.args.i) (c.get.ensures.value ∙ c.size.ensures.value) in
    let read : c.index.result.now ≡ get_or c.self.inside.tallies.items c.from.result c.index.result.now =
    search rules in
    let back : c.loop-tally.tally.events + 1 - 1 ≡ c.loop-tally.tally.events = omega arith in
    let events : List Event = c.log-log.result.now.events in
    let none : (e : Event) → slice_get c.log-log.result.now.events c.loop-tally.tally.events ≡ Some e
    → c.index.result.now.sendings < c.loop-tally.tally.receipts + got_by e =
    elim c.loop-tally-test.branch [
      | else-loop-tally-test w ↦ λ e e_is. omega (
        arith,
        slice_get_within events c.loop-tally.tally.events e e_is,
        w.loop-tally-test.false,
        c.len.ensures.value,
      )
      | then-loop-tally-test+in-Got+then-tally-sendings w ↦ λ e e_is.
          let event_is : slice_get c.log-log.result.now.events c.loop-tally.tally.events ≡ Some w.event-event.result =
          rw back at w.event-event.ensures in
          let same : e ≡ w.event-event.result =
          sym (get_or_from_slice_get events c.loop-tally.tally.events e e e_is)
          ∙ get_or_from_slice_get events c.loop-tally.tally.events w.event-event.result e event_is in
          rw (same, w.in-Got.is) (omega (arith, w.if-tally-sendings.true))
    ] in
    record {
      prefix = subst (λ ps. P ps c.from-node.result) (sym places)
          (subst (P _) (sym c.from-node.ensures) c.loop-tally.invariant.prefix);
      further = (_, places ∙ ap (λ (p : OrderPrefix). p.places ++ replicate k c.args.i) c.self.view_is);
      stuck = subst (λ ps. IsStuckAt c.args.logs.now (occurrences ps) c.args.i) (sym places)
          (run_ends _ _ _ _ _ _ c.loop-tally.invariant.prefix c.requires.place c.log-log.ensures.value c.from.result
          c.index.result.now writer read none);
    }
