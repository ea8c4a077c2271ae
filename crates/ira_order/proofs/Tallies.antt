-- An event more at the end of the beginning of an order, and how far its nodes have come.
use Rattle.std.proofs.Common.{◌≡◌, ◌≢◌, ℕ, ◌+◌, ◌-◌, ◌<◌, ◌≤◌, inl, inr, ◌↔◌, List, [], ◌∷◌, ◌++◌, length, sym, ◌∙◌}
use Rattle.std.proofs.Common.{ap, arith, append_assoc, get_or, get_or-set_same, get_or-set_other, length-set, replicate}
use Rattle.std.proofs.Common.{set, take, Some}
use Rattle.std.specs.Prelude.{slice_get}
use Rattle.std.proofs.lemmas.Bool.{cases_eq}
use Rattle.std.proofs.lemmas.List.{get_or_read, take_all, length_push, set-set, replicate-append-replicate}
use Rattle.std.proofs.lemmas.List.Sums.{sum_by-set}
use Rattle.std.proofs.lemmas.Option.{slice_get_cases, slice_get_within}
use Rattle.ira_event.specs.Limits.{MAX_RECORDS}
use Rattle.ira_event.specs.declared.event.Event.{Event}
use Rattle.ira_event.specs.Log.{Log}
use Rattle.ira_order.specs.declared.tally.Tally.{Tally}
use Rattle.ira_order.specs.Ring.{events_of, log_of, next, prev}
use Rattle.ira_order.specs.Matching.{sent, got, sending, receipt}
use Rattle.ira_order.specs.Order.{occurrences}
use Rattle.ira_order.specs.Counts.{IsReady}
use Rattle.ira_order.specs.Tally.{IsTally, got_by, no_events, tallied}
use Rattle.ira_order.specs.OrderPrefix.{IsOrderPrefix, IsStuckAt, OrderPrefix, tally_at}
use Rattle.ira_order.proofs.OrderPrefixes.{counted_more, occurrences_push_same, occurrences_push_other, rank_le}
use Rattle.ira_order.proofs.OrderPrefixes.{schedule_push}
use Rattle.ira_order.proofs.Runs.{next_prev, prev_below, prev_next}
use Rattle.ira_order.proofs.Ranks.{next_other}

tally_more : (es : List Event) (n : ℕ) (e : Event) (t : Tally) → slice_get es n ≡ Some e → IsTally es n t
    → IsTally es (n + 1) (tallied t e)
tally_more es n e t at is = record {
  made = omega (arith, is.made);
  sendings = omega (arith, is.sendings, counted_more sending es n e at);
  receipts = omega (arith, is.receipts, counted_more receipt es n e at);
}

pub prefix_step : (logs : List Log) (p : OrderPrefix) (i : ℕ) (e : Event) → IsOrderPrefix logs p → i < length logs
    → IsReady logs (occurrences p.places) i → slice_get (log_of logs i) (occurrences p.places i) ≡ Some e
    → IsOrderPrefix logs (record {
      places = p.places ++ i ∷ [];
      tallies = set p.tallies i (tallied (tally_at p.tallies i) e);
    })
prefix_step logs p i e prefix here free at =
    let new : Tally = tallied (tally_at p.tallies i) e in
    let within : i < length p.tallies = omega (arith, here, prefix.nodes) in
    let its : tally_at (set p.tallies i (tallied (tally_at p.tallies i) e)) i ≡ tallied (tally_at p.tallies i) e =
    get_or-set_same p.tallies i new no_events within in
    record {
      logs_are = prefix.logs_are;
      schedule = schedule_push logs p.places i prefix.logs_are.ring.0 here prefix.schedule free;
      nodes = length-set p.tallies i new ∙ prefix.nodes;
      each = λ j lj. elim (cases_eq i j) [
        | inl same ↦ rw (← same, its, occurrences_push_same p.places i)
            (tally_more (log_of logs i) (occurrences p.places i) e (tally_at p.tallies i) at (prefix.each i here))
        | inr ne ↦ rw (
          get_or-set_other p.tallies i j new no_events (λ q. ne (sym q)),
          occurrences_push_other p.places i j ne,
        ) (prefix.each j lj)
      ];
      total = omega (
        arith,
        sum_by-set (λ (t : Tally). t.events) p.tallies i new no_events within,
        prefix.total,
        length_push p.places i,
      );
    }

-- node i of the beginning of an order
module _ (logs : List Log) (p : OrderPrefix) (i : ℕ) (prefix : IsOrderPrefix logs p) (here : i < length logs) where
  there : prev (length logs) i < length logs
  there = prev_below (length logs) i here

  into : next (length logs) (prev (length logs) i) ≡ i
  into = next_prev (length logs) i here

  -- it has received no more than the node before it sent
  pub receipts_covered : (tally_at p.tallies i).receipts ≤ (tally_at p.tallies (prev (length logs) i)).sendings
  receipts_covered =
      let whole : take (length p.places) p.places ≡ p.places = take_all (length p.places) p.places (omega arith) in
      let covered : length (got (take (occurrences p.places (next (length logs) (prev (length logs) i)))
      (log_of logs (next (length logs) (prev (length logs) i)))))
      ≤ length (sent (take (occurrences p.places (prev (length logs) i)) (log_of logs (prev (length logs) i)))) =
      rw whole at (prefix.schedule.kept (length p.places) (omega arith) (prev (length logs) i) there) in
      let covered' : length (got (take (occurrences p.places i) (log_of logs i)))
      ≤ length (sent (take (occurrences p.places (prev (length logs) i)) (log_of logs (prev (length logs) i)))) =
      rw into at covered in
      omega (arith, covered', (prefix.each i here).receipts, (prefix.each (prev (length logs) i) there).sendings)

  -- its next event may come where it is no receipt, or of a message that was sent
  pub ready_iff : (e : Event) → slice_get (log_of logs i) (occurrences p.places i) ≡ Some e
      → ((tally_at p.tallies i).receipts + got_by e ≤ (tally_at p.tallies (prev (length logs) i)).sendings)
      ↔ IsReady logs (occurrences p.places) i
  ready_iff e at =
      let more = counted_more receipt (log_of logs i) (occurrences p.places i) e at in
      let its = (prefix.each i here).receipts in
      let before = (prefix.each (prev (length logs) i) there).sendings in (
        λ few. (
          slice_get_within (log_of logs i) (occurrences p.places i) e at,
          λ j lj leads. rw (prev_next (length logs) i j here lj leads) (omega (arith, few, more, its, before)),
        ),
        λ ready. (let covered = ready.1 (prev (length logs) i) there into in
            omega (arith, covered, more, its, before)),
      )

-- a place that stood so many times at the end stands there once more
pub once_more : (places : List ℕ) (i before at : ℕ) → before ≤ at
    → (places ++ replicate (at - before) i) ++ i ∷ [] ≡ places ++ replicate (at + 1 - before) i
once_more places i before at l =
    let count : at - before + 1 ≡ at + 1 - before = omega arith in
    append_assoc places (replicate (at - before) i) (i ∷ [])
    ∙ ap (λ xs. places ++ xs) (replicate-append-replicate (at - before) 1 i ∙ ap (λ n. replicate n i) count)

pub same_tally : (a b : Tally) → a.events ≡ b.events → a.sendings ≡ b.sendings → a.receipts ≡ b.receipts → a ≡ b
same_tally a b events sendings receipts =
    let of : ℕ → ℕ → ℕ → Tally = λ x y z. record { events = x; sendings = y; receipts = z } in
    ap (λ x. of x a.sendings a.receipts) events ∙ ap (λ y. of b.events y a.receipts) sendings
    ∙ ap (λ z. of b.events b.sendings z) receipts

-- node i goes on, its tally apart until no event may come
module _ (logs : List Log) (tallies : List Tally) (places : List ℕ) (i : ℕ) (t : Tally) (log : Log)
    (prefix : IsOrderPrefix logs (record { places = places; tallies = set tallies i t }))
    (here : i < length logs)
    (log_is : slice_get logs i ≡ Some log) where
  its : tally_at (set tallies i t) i ≡ t
  its = get_or-set_same tallies i t no_events (omega (arith, here, prefix.nodes, length-set tallies i t))

  is_tally : IsTally log.events (occurrences places i) t
  is_tally = rw (its, log_is) at (prefix.each i here)

  pub few_events : t.events ≤ length log.events
  few_events = omega (arith, is_tally.made, prefix.schedule.within i here, ap (λ o. length (events_of o)) log_is)

  pub records : length log.events ≤ MAX_RECORDS
  records = (prefix.logs_are.valid i log log_is).count

  pub few_sendings : t.sendings ≤ t.events
  few_sendings = omega (arith, is_tally.made, is_tally.sendings, rank_le sending log.events (occurrences places i))

  pub few_receipts : t.receipts ≤ t.events
  few_receipts = omega (arith, is_tally.made, is_tally.receipts, rank_le receipt log.events (occurrences places i))

  event_at : (e : Event) → slice_get log.events t.events ≡ Some e
      → slice_get (log_of logs i) (occurrences places i) ≡ Some e
  event_at e at = rw (log_is, ← is_tally.made) at

  -- the node before stands where it stood
  module _ (w : ℕ) (v : Tally) (w_is : w ≡ prev (length logs) i) (read : v ≡ get_or tallies w v) where
    sendings_are : (tally_at (set tallies i t) (prev (length logs) i)).sendings ≡ v.sendings
    sendings_are =
        let below : prev (length logs) i < length logs = prev_below (length logs) i here in
        let other : prev (length logs) i ≢ i =
        λ e. next_other (length logs) (prev (length logs) i) prefix.logs_are.ring.0 below
        (next_prev (length logs) i here ∙ sym e) in
        let long : prev (length logs) i < length tallies = omega (arith, below, prefix.nodes, length-set tallies i t) in
        let read' : v ≡ get_or tallies (prev (length logs) i) v = read ∙ ap (λ k. get_or tallies k v) w_is in
        ap (λ (x : Tally). x.sendings) (get_or-set_other tallies i (prev (length logs) i) t no_events other
        ∙ sym (get_or_read tallies (prev (length logs) i) v long read' no_events))

    pub covered : t.receipts ≤ v.sendings
    covered = rw (its, sendings_are) at (receipts_covered logs _ i prefix here)

    -- the next event may come, and is added
    pub run_on : (e : Event) → slice_get log.events t.events ≡ Some e → t.receipts + got_by e ≤ v.sendings
        → IsOrderPrefix logs (record { places = places ++ i ∷ []; tallies = set tallies i (tallied t e) })
    run_on e at few =
        let event = event_at e at in
        let free = (ready_iff logs _ i prefix here e event).0 (rw (its, sendings_are) few) in
        rw (its, set-set tallies i t (tallied t e)) at (prefix_step logs _ i e prefix here free event)

    -- no next event may come
    pub run_ends : ((e : Event) → slice_get log.events t.events ≡ Some e → v.sendings < t.receipts + got_by e)
        → IsStuckAt logs (occurrences places) i
    run_ends none ready = elim (slice_get_cases log.events t.events).1 [
      | inl found ↦
          let few = rw (its, sendings_are) at ((ready_iff logs _ i prefix here found.0 (event_at found.0 found.2)).1
          ready) in
          omega (arith, few, none found.0 found.2)
      | inr past ↦ omega (arith, ready.0, past.0, is_tally.made, ap (λ o. length (events_of o)) log_is)
    ]
