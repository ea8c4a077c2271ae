-- Going along an order while its receipts are stamped.
use Rattle.std.proofs.Common.{◌≡◌, ◌≢◌, ℕ, suc, ◌+◌, ◌-◌, ◌<◌, ◌≤◌, List, [], ◌∷◌, ◌++◌, inl, inr, length, refl, sym}
use Rattle.std.proofs.Common.{◌∙◌, ap, arith, take, get_or, set, Option, Some, None, subst, ◌*◌, min}
use Rattle.std.specs.Prelude.{slice_get}
use Rattle.ira_event.specs.declared.event.Event.{Event}
use Rattle.ira_event.specs.declared.event.Event.TheVariants.{Sent}
use Rattle.ira_event.specs.declared.load.Load.{Load}
use Rattle.ira_event.specs.Limits.{MAX_RECORDS}
use Rattle.ira_event.specs.Log.{Log}
use Rattle.ira_order.specs.declared.tally.Tally.{Tally}
use Rattle.ira_order.specs.Ring.{log_of, next, prev, events_of}
use Rattle.ira_order.specs.Matching.{sent, got, sending, receipt}
use Rattle.ira_order.specs.Order.{occurrences}
use Rattle.ira_order.specs.Counts.{Covers, IsReady}
use Rattle.ira_order.specs.OrderPrefix.{IsOrderPrefix, tally_at}
use Rattle.ira_order.specs.Tally.{IsTally, no_events, tallied}
use Rattle.ira_order.specs.Ordered.{IsOrdered}
use Rattle.ira_order.specs.Stamps.{NodeStamps, receipts_by, CountsSent, HaveStamps, IsTable, AreUnstamped, AreStamps}
use Rattle.ira_order.specs.Stamps.{IsStamping, AreReceipts, stamps_at, numbers_at, counters_at}
use Rattle.ira_order.proofs.Ranks.{occurrences_same, occurrences_other, occurrences-take-le, next_other, next_below}
use Rattle.ira_order.proofs.OrderPrefixes.{rank_le}
use Rattle.ira_order.proofs.Tallies.{prefix_step}
use Rattle.ira_order.proofs.Bridge.{order_kept}
use Rattle.ira_order.proofs.Counting.{counts_all}
use Rattle.ira_order.specs.Before.{message}
use Rattle.ira_order.proofs.Acyclic.{before_within}
use Rattle.ira_order.proofs.Runs.{prev_below, next_prev}
use Rattle.ira_order.proofs.Places.{fewer_receipts}
use Rattle.ira_order.proofs.Receipts.{receipts_by_le}
use Rattle.ira_order.proofs.Stamping.{sent_stays, sent_more, stamps_same, stamps_have}
use Rattle.std.proofs.lemmas.Nat.{mul-le}
use Rattle.std.proofs.lemmas.Bool.{cases_eq}
use Rattle.std.proofs.lemmas.List.{take_all, take_more, get_or_read, get_or_push, length_push, get_or_append_left}
use Rattle.std.proofs.lemmas.List.Elements.{All-get_or}

-- the first n nodes, and no stamp
pub record AreFirst (logs : List Log) (n : ℕ) (stamps : List NodeStamps) : Type 0 where
  pub many : length stamps ≡ n
  pub receipts : (j : ℕ) → j < n → AreReceipts (log_of logs j) (numbers_at stamps j)
  pub none : (j : ℕ) → j < n → counters_at stamps j ≡ []

pub one_node_more : (logs : List Log) (n : ℕ) (stamps : List NodeStamps) (node : NodeStamps) → AreFirst logs n stamps
    → AreReceipts (log_of logs n) node.numbers → node.counters ≡ [] → AreFirst logs (n + 1) (stamps ++ node ∷ [])
one_node_more logs n stamps node are its none = record {
  many = omega (arith, length_push stamps node, are.many);
  receipts = λ j l. elim (cases_eq j n) [
    | inl e ↦ subst (λ (x : ℕ). AreReceipts (log_of logs x) (numbers_at (stamps ++ node ∷ []) x)) (sym e)
        (subst (λ (s : NodeStamps). AreReceipts (log_of logs n) s.numbers) (sym new) its)
    | inr ne ↦ (let lj : j < n = omega arith in
        subst (λ (s : NodeStamps). AreReceipts (log_of logs j) s.numbers) (sym (old j lj)) (are.receipts j lj))
  ];
  none = λ j l. elim (cases_eq j n) [
    | inl e ↦ ap (counters_at (stamps ++ node ∷ [])) e ∙ ap (λ (s : NodeStamps). s.counters) new ∙ none
    | inr ne ↦ (let lj : j < n = omega arith in ap (λ (s : NodeStamps). s.counters) (old j lj) ∙ are.none j lj)
  ];
}
  where
    new : stamps_at (stamps ++ node ∷ []) n ≡ node
    new = get_or_push stamps node (record { numbers = []; counters = [] }) n are.many

    old : (j : ℕ) → j < n → stamps_at (stamps ++ node ∷ []) j ≡ stamps_at stamps j
    old j l = get_or_append_left stamps (node ∷ []) (record { numbers = []; counters = [] }) j (omega (arith, are.many))

module _ (logs : List Log) (schedule : List ℕ) (ordered : IsOrdered (record { logs = logs; schedule = schedule })) where
  covers_at : (t : ℕ) → t ≤ length schedule → Covers logs (occurrences (take t schedule))
  covers_at t l = order_kept logs schedule ordered.logs.ring.0 ordered.matches ordered.order t l

  -- at the end each receipt has its stamp, and each event's counters count
  pub filled_all : (stamps : List NodeStamps) (t : ℕ) → length schedule ≤ t → IsTable logs stamps
      → HaveStamps logs stamps (occurrences (take t schedule)) → CountsSent logs stamps (occurrences (take t schedule))
      → AreStamps logs stamps
  filled_all stamps t past table have stamped =
      let whole : take t schedule ≡ schedule = take_all t schedule past in
      let all : take (length schedule) schedule ≡ schedule = take_all (length schedule) schedule (omega arith) in
      let covers : Covers logs (occurrences schedule) = rw all at (covers_at (length schedule) (omega arith)) in
      let stamped' : CountsSent logs stamps (occurrences schedule) = rw whole at stamped in
      let have' : HaveStamps logs stamps (occurrences schedule) = rw whole at have in
      record {
        table = table;
        whole = λ j lj.
            let k = prev (length logs) j in
            let lk : k < length logs = prev_below (length logs) j lj in
            let link : next (length logs) k ≡ j = next_prev (length logs) j lj in
            let every : take (occurrences schedule k) (log_of logs k) ≡ log_of logs k =
            take_all (occurrences schedule k) (log_of logs k) (omega (arith, ordered.order.whole k lk)) in
            let fewer : length (got (log_of logs (next (length logs) k)))
            ≤ length (sent (take (occurrences schedule k) (log_of logs k))) =
            rw every (fewer_receipts logs k ordered.matches lk) in
            let least : min (length (sent (take (occurrences schedule k) (log_of logs k))))
            (length (got (log_of logs (next (length logs) k))))
            ≡ length (got (log_of logs (next (length logs) k))) = omega (arith, fewer) in
            rw (least, link) at (have' k lk);
        counts = λ j b lj l. counts_all logs schedule ordered.order stamps (occurrences schedule) ordered.matches covers
            stamped' j b lj (omega (arith, ordered.order.whole j lj)) l;
      }

  -- in the beginning none has one
  pub filled_none : (stamps : List NodeStamps) → AreUnstamped logs stamps
      → HaveStamps logs stamps (occurrences (take 0 schedule))
  filled_none stamps un k lk =
      let none : counters_at stamps (next (length logs) k) ≡ [] =
      un.none (next (length logs) k) (next_below (length logs) k lk) in
      let least : min 0 (length (got (log_of logs (next (length logs) k)))) ≡ 0 = omega arith in
      rw none (omega (arith, ap (λ (x : ℕ). x * length logs) least))

  pub counts_none : (stamps : List NodeStamps) → CountsSent logs stamps (occurrences (take 0 schedule))
  counts_none stamps k a b pair l = absurd (omega (arith, l, (before_within logs k a _ b (message refl pair)).0))

  module _ (t : ℕ) (here : t < length schedule) (tallies : List Tally)
      (prefix : IsOrderPrefix logs (record { places = take t schedule; tallies = tallies })) where
    pub in_ring : get_or schedule t 0 < length logs
    in_ring = All-get_or (λ p. p < length logs) schedule t 0 here ordered.order.places

    one_on : occurrences (take (t + 1) schedule) (get_or schedule t 0)
        ≡ occurrences (take t schedule) (get_or schedule t 0) + 1
    one_on = occurrences_same schedule t (get_or schedule t 0) here refl

    others_stay : (j : ℕ) → j ≢ get_or schedule t 0
        → occurrences (take (t + 1) schedule) j ≡ occurrences (take t schedule) j
    others_stay j ne = occurrences_other schedule t j here (λ q. ne (sym q))

    -- there is a next event
    pub goes_on : occurrences (take t schedule) (get_or schedule t 0) < length (log_of logs (get_or schedule t 0))
    goes_on = omega (
      arith,
      one_on,
      occurrences-take-le schedule (t + 1) (get_or schedule t 0),
      ordered.order.whole (get_or schedule t 0) in_ring,
    )

    can_go : IsReady logs (occurrences (take t schedule)) (get_or schedule t 0)
    can_go = (
      goes_on,
      λ j lj e.
          let ne : j ≢ get_or schedule t 0 = λ q. next_other (length logs) j ordered.logs.ring.0 lj (e ∙ sym q) in
          let c : length (got (take (occurrences (take (t + 1) schedule) (next (length logs) j))
          (log_of logs (next (length logs) j))))
          ≤ length (sent (take (occurrences (take (t + 1) schedule) j) (log_of logs j))) =
          covers_at (t + 1) (omega arith) j lj in
          let c' = rw (e, one_on, others_stay j ne) at c in
          c',
    )

    -- what is read of the node
    pub node_read : (v : Tally) → v ≡ get_or tallies (get_or schedule t 0) v → v ≡ tally_at tallies (get_or schedule t 0)
    node_read v e = get_or_read tallies (get_or schedule t 0) v (omega (arith, in_ring, prefix.nodes)) e no_events

    pub tally_read : (v : Tally) → v ≡ get_or tallies (get_or schedule t 0) v
        → IsTally (log_of logs (get_or schedule t 0)) (occurrences (take t schedule) (get_or schedule t 0)) v
    tally_read v e =
        subst (IsTally (log_of logs (get_or schedule t 0)) (occurrences (take t schedule) (get_or schedule t 0)))
        (sym (node_read v e)) (prefix.each (get_or schedule t 0) in_ring)

    few_done : occurrences (take t schedule) (get_or schedule t 0) < MAX_RECORDS
    few_done = by_log (slice_get logs (get_or schedule t 0)) refl
      where
        by_log : (log : Option Log) → slice_get logs (get_or schedule t 0) ≡ log
            → occurrences (take t schedule) (get_or schedule t 0) < MAX_RECORDS
        by_log None is = (let e : length (log_of logs (get_or schedule t 0)) ≡ 0 = ap (λ o. length (events_of o)) is in
            absurd (omega (arith, e, goes_on)))
        by_log (Some log) is =
            let e : length (log_of logs (get_or schedule t 0)) ≡ length log.events =
            ap (λ o. length (events_of o)) is in
            omega (arith, e, goes_on, (ordered.logs.valid (get_or schedule t 0) log is).count)

    pub few : (v : Tally) → v ≡ get_or tallies (get_or schedule t 0) v
        → (v.events < MAX_RECORDS) × (v.sendings ≤ v.events) × (v.receipts ≤ v.events)
    few v e =
        let is = tally_read v e in (
          omega (arith, few_done, is.made),
          omega (
            arith,
            is.made,
            is.sendings,
            rank_le sending (log_of logs (get_or schedule t 0)) (occurrences (take t schedule) (get_or schedule t 0)),
          ),
          omega (
            arith,
            is.made,
            is.receipts,
            rank_le receipt (log_of logs (get_or schedule t 0)) (occurrences (take t schedule) (get_or schedule t 0)),
          ),
        )

    -- the event that is read
    pub event_read : (v : ℕ) (log : Log) (e : Event) → slice_get logs (get_or schedule t 0) ≡ Some log
        → v ≡ occurrences (take t schedule) (get_or schedule t 0) → slice_get log.events (v + 1 - 1) ≡ Some e
        → slice_get (log_of logs (get_or schedule t 0)) (occurrences (take t schedule) (get_or schedule t 0)) ≡ Some e
    event_read v log e log_is v_is at =
        let same : v + 1 - 1 ≡ occurrences (take t schedule) (get_or schedule t 0) = omega (arith, v_is) in
        let at' : slice_get log.events (occurrences (take t schedule) (get_or schedule t 0)) ≡ Some e = rw same at at in
        ap (λ o. slice_get (events_of o) (occurrences (take t schedule) (get_or schedule t 0))) log_is ∙ at'

    module _ (e : Event) (is : slice_get (log_of logs (get_or schedule t 0))
        (occurrences (take t schedule) (get_or schedule t 0)) ≡ Some e) where
      pub next_prefix : IsOrderPrefix logs (record {
        places = take (t + 1) schedule;
        tallies = set tallies (get_or schedule t 0) (tallied (tally_at tallies (get_or schedule t 0)) e);
      })
      next_prefix = rw (take_more schedule t 0 here)
          (prefix_step logs (record { places = take t schedule; tallies = tallies }) (get_or schedule t 0) e prefix
          in_ring can_go is)

      -- an event that is no sending
      pub stamps_stay : (stamps : List NodeStamps) → ((m : Load) → e ≡ Sent m → ⊥)
          → CountsSent logs stamps (occurrences (take t schedule))
          → CountsSent logs stamps (occurrences (take (t + 1) schedule))
      stamps_stay stamps never stamped =
          sent_stays logs schedule ordered.order ordered.matches (occurrences (take t schedule))
          (occurrences (take (t + 1) schedule)) (get_or schedule t 0) stamps in_ring one_on others_stay
          (covers_at t (omega arith)) stamped e is never

      pub stamps_kept : (stamps : List NodeStamps) → ((m : Load) → e ≡ Sent m → ⊥)
          → CountsSent logs stamps (occurrences (take t schedule))
          → HaveStamps logs stamps (occurrences (take t schedule))
          → HaveStamps logs stamps (occurrences (take (t + 1) schedule))
      stamps_kept stamps never stamped have =
          stamps_same logs schedule ordered.order ordered.matches (occurrences (take t schedule))
          (occurrences (take (t + 1) schedule)) (get_or schedule t 0) stamps in_ring one_on others_stay
          (covers_at t (omega arith)) stamped e is never have

    -- what the node has received has stamps
    pub received_stamped : (stamps : List NodeStamps) (h : ℕ)
        → h ≡ receipts_by logs (get_or schedule t 0) (occurrences (take t schedule) (get_or schedule t 0))
        → HaveStamps logs stamps (occurrences (take t schedule))
        → h * length logs ≤ length (counters_at stamps (get_or schedule t 0))
    received_stamped stamps h h_is have =
        let k = prev (length logs) (get_or schedule t 0) in
        let lk : k < length logs = prev_below (length logs) (get_or schedule t 0) in_ring in
        let link : next (length logs) k ≡ get_or schedule t 0 = next_prev (length logs) (get_or schedule t 0) in_ring in
        let kept = rw link at (have k lk) in
        let covered = rw link at (covers_at t (omega arith) k lk) in
        let low : h ≤ min (length (sent (take (occurrences (take t schedule) k) (log_of logs k))))
        (length (got (log_of logs (get_or schedule t 0)))) =
        omega (
          arith,
          h_is,
          covered,
          receipts_by_le logs (get_or schedule t 0) (occurrences (take t schedule) (get_or schedule t 0)),
        ) in
        omega (
          arith,
          kept,
          mul-le h (length logs)
              (min (length (sent (take (occurrences (take t schedule) k) (log_of logs k))))
              (length (got (log_of logs (get_or schedule t 0))))) (length logs) low (omega arith),
        )

    -- a sending
    module _ (old new : List NodeStamps) (m : Load) (a h s : ℕ)
        (is : slice_get (log_of logs (get_or schedule t 0)) (occurrences (take t schedule) (get_or schedule t 0))
        ≡ Some (Sent m))
        (a_is : a ≡ occurrences (take t schedule) (get_or schedule t 0))
        (h_is : h ≡ receipts_by logs (get_or schedule t 0) (occurrences (take t schedule) (get_or schedule t 0)))
        (s_is : s ≡ length (sent (take (occurrences (take t schedule) (get_or schedule t 0))
        (log_of logs (get_or schedule t 0)))))
        (stamping : IsStamping logs old new (get_or schedule t 0) h s (a + 1))
        (stamped : CountsSent logs old (occurrences (take t schedule)))
        (have : HaveStamps logs old (occurrences (take t schedule))) where
      number : a + 1 ≡ suc (occurrences (take t schedule) (get_or schedule t 0))
      number = omega (arith, a_is)

      pub stamps_more : CountsSent logs new (occurrences (take (t + 1) schedule))
      stamps_more =
          sent_more logs schedule ordered.order ordered.matches (occurrences (take t schedule))
          (occurrences (take (t + 1) schedule)) (get_or schedule t 0) old in_ring one_on others_stay
          (covers_at t (omega arith)) stamped
          new m (a + 1) h s is number h_is s_is have stamping

      pub one_stamp_more : HaveStamps logs new (occurrences (take (t + 1) schedule))
      one_stamp_more =
          stamps_have logs schedule ordered.order ordered.matches (occurrences (take t schedule))
          (occurrences (take (t + 1) schedule)) (get_or schedule t 0) old in_ring one_on others_stay
          (covers_at t (omega arith)) stamped
          new m (a + 1) h s is number h_is s_is have stamping
