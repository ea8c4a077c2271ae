-- The receipts at which nodes are stuck are a circle once round the ring.
use Rattle.std.proofs.Common.{◌≡◌, ℕ, suc, ◌+◌, ◌<◌, ◌≤◌, ◌⊎◌, inl, inr, List, [], ◌∷◌, ◌++◌, Option, Some, None}
use Rattle.std.proofs.Common.{length, refl, sym, ◌∙◌, ap, subst, arith, get_or, take, add-one}
use Rattle.std.specs.List.{cons_option}
use Rattle.std.specs.Prelude.{slice_get, slice_index}
use Rattle.std.proofs.lemmas.Bool.{cases_eq, cases_lt}
use Rattle.std.proofs.lemmas.List.{take_all}
use Rattle.std.proofs.lemmas.Option.{get_or_from_slice_get, slice_get-get_or}
use Rattle.ira_event.specs.declared.event.Event.{Event}
use Rattle.ira_event.specs.declared.event.Event.TheVariants.{Draw, Got, Sent}
use Rattle.ira_event.specs.declared.load.Load.{Load}
use Rattle.ira_event.specs.Log.{Log}
use Rattle.ira_event.specs.Logs.{AreLogs}
use Rattle.ira_order.specs.Before.{Before, message, onward, own}
use Rattle.ira_order.specs.Circle.{HasOrder}
use Rattle.ira_order.specs.Counts.{IsReady}
use Rattle.ira_order.specs.Matching.{Matches, got, receipt, sending, sent}
use Rattle.ira_order.specs.Order.{IsOrder, IsPair, occurrences}
use Rattle.ira_order.specs.Ring.{log_of, next, numbered, prev}
use Rattle.ira_order.proofs.Acyclic.{before_own}
use Rattle.ira_order.proofs.Bridge.{SendingOf, kept_order, pair_of, sending_of}
use Rattle.ira_order.proofs.OrderOrCircle.{order_or_circle}
use Rattle.ira_order.proofs.OrderPrefixes.{counted_more, occurrences_push_same, schedule_push}
use Rattle.ira_order.proofs.Places.{Ranked, fewer_receipts, is_receipt}
use Rattle.ira_order.proofs.Ranks.{next_below, rank_mono}
use Rattle.ira_order.proofs.Runs.{next_prev, prev_below, prev_next}
use Rattle.ira_view_evidence.specs.CircleEvidence.{IsCircle, IsLongestPrefix}
use Rattle.ira_view_evidence.specs.StuckNodes.{IsWaiting}
use Rattle.ira_view_evidence.proofs.Around.{around}
use Rattle.ira_view_evidence.proofs.Counted.{at_number}

-- the only link into the next node
one_link : (n i j : ℕ) → i < n → j < n → next n j ≡ next n i → j ≡ i
one_link n i j li lj e =
    prev_next n (next n i) j (next_below n i li) lj e ∙ sym (prev_next n (next n i) i (next_below n i li) li refl)

-- an event that has a load or none
load_cases : (o : Option Load) → (o ≡ None) ⊎ ((x : Load) × (o ≡ Some x))
load_cases None = inl refl
load_cases (Some x) = inr (x, refl)

module _ (logs : List Log) (cut : List ℕ) (are : AreLogs logs) (matches : Matches logs)
    (p : IsLongestPrefix logs cut) where
  -- no event may come after the longest prefix
  stuck : (i : ℕ) → i < length logs → IsReady logs (occurrences p.order) i → ⊥
  stuck i l can =
      let longer = p.longest (p.order ++ i ∷ []) (schedule_push logs p.order i are.ring.0 l p.ordered can) i l in
      omega (arith, longer, occurrences_push_same p.order i, p.holds i l)

  -- the events so far of node i
  abbrev at : ℕ → ℕ
  at i = slice_index cut i

  covered : (i : ℕ) → i < length logs
      → length (got (take (at (next (length logs) i)) (log_of logs (next (length logs) i))))
      ≤ length (sent (take (at i) (log_of logs i)))
  covered i l =
      let whole : take (length p.order) p.order ≡ p.order = take_all (length p.order) p.order (omega arith) in
      let kept : length (got (take (occurrences p.order (next (length logs) i)) (log_of logs (next (length logs) i))))
      ≤ length (sent (take (occurrences p.order i) (log_of logs i))) =
      rw whole at (p.ordered.kept (length p.order) (omega arith) i l) in
      rw (p.holds i l, p.holds (next (length logs) i) (next_below (length logs) i l)) kept

  -- where a node is stuck before its log's end, one more event would receive more than was sent
  uncovered : (i : ℕ) → i < length logs → at (next (length logs) i) < length (log_of logs (next (length logs) i))
      → length (sent (take (at i) (log_of logs i)))
      < length (got (take (at (next (length logs) i) + 1) (log_of logs (next (length logs) i))))
  uncovered i l short =
      let ln : next (length logs) i < length logs = next_below (length logs) i l in
      let here = p.holds i l in
      let there = p.holds (next (length logs) i) ln in
      elim (cases_lt (length (sent (take (at i) (log_of logs i))))
      (length (got (take (at (next (length logs) i) + 1) (log_of logs (next (length logs) i)))))) [
        | inl more ↦ more
        | inr few ↦ absurd (stuck (next (length logs) i) ln (
          omega (arith, short, there),
          λ j lj leads.
              let same : j ≡ i = one_link (length logs) i j l lj leads in
              rw (same, ← here, ← there) few,
        ))
      ]

  -- the event at which a node is stuck
  record Stuck (i : ℕ) : Type 0 where
    event : Event
    load : Load
    at_event : slice_get (log_of logs (next (length logs) i)) (at (next (length logs) i)) ≡ Some event
    receives : receipt event ≡ Some load
    rank : length (got (take (at (next (length logs) i)) (log_of logs (next (length logs) i))))
        ≡ length (sent (take (at i) (log_of logs i)))
    next_rank : length (got (take (at (next (length logs) i) + 1) (log_of logs (next (length logs) i))))
        ≡ length (sent (take (at i) (log_of logs i))) + 1

  stuck_event : (i : ℕ) → i < length logs → at (next (length logs) i) < length (log_of logs (next (length logs) i))
      → Stuck i
  stuck_event i l short =
      let es : List Event = log_of logs (next (length logs) i) in
      let e : Event = get_or (log_of logs (next (length logs) i)) (at (next (length logs) i)) (Draw 0) in
      let is : slice_get (log_of logs (next (length logs) i)) (at (next (length logs) i)) ≡ Some e =
      slice_get-get_or (log_of logs (next (length logs) i)) (at (next (length logs) i)) (Draw 0) short in
      let more = counted_more receipt (log_of logs (next (length logs) i)) (at (next (length logs) i)) e is in
      let un = uncovered i l short in
      let cov = covered i l in
      elim (load_cases (receipt e)) [
        | inl none ↦
            let zero_more : length (cons_option (receipt e) []) ≡ 0 =
            ap (λ (o : Option Load). length (cons_option o [])) none in
            absurd (omega (arith, more, un, cov, zero_more))
        | inr some ↦
            let one_more : length (cons_option (receipt e) []) ≡ 1 =
            ap (λ (o : Option Load). length (cons_option o [])) some.1 in
            record {
              event = e;
              load = some.0;
              at_event = is;
              receives = some.1;
              rank = omega (arith, more, un, cov, one_more);
              next_rank = omega (arith, more, un, cov, one_more);
            }
      ]

  -- a node that is at its log's end lets the next one come to its own
  whole_next : (i : ℕ) → i < length logs → length (log_of logs i) ≤ at i
      → length (log_of logs (next (length logs) i)) ≤ at (next (length logs) i)
  whole_next i l whole = elim (cases_lt (at (next (length logs) i)) (length (log_of logs (next (length logs) i)))) [
    | inr ended ↦ ended
    | inl short ↦
        let un = uncovered i l short in
        let all : take (at i) (log_of logs i) ≡ log_of logs i = take_all (at i) (log_of logs i) whole in
        let un' = rw all at un in
        let every : take (length (log_of logs (next (length logs) i))) (log_of logs (next (length logs) i))
        ≡ log_of logs (next (length logs) i) = take_all _ _ (omega arith) in
        let mono = rank_mono receipt (log_of logs (next (length logs) i)) (at (next (length logs) i) + 1)
        (length (log_of logs (next (length logs) i))) (omega (arith, short)) in
        let mono' = rw every at mono in
        absurd (omega (arith, un', mono', fewer_receipts logs i matches l))
  ]

  all_whole : (i : ℕ) → i < length logs → length (log_of logs i) ≤ at i → (j : ℕ) → j < length logs
      → length (log_of logs j) ≤ at j
  all_whole i l whole j lj = around (length logs) (λ k. length (log_of logs k) ≤ at k) whole_next i j l lj whole

  -- where one node is stuck before its log's end, each is
  pub all_short : (i : ℕ) → i < length logs → at i < length (log_of logs i) → (j : ℕ) → j < length logs
      → at j < length (log_of logs j)
  all_short i l short j lj = elim (cases_lt (at j) (length (log_of logs j))) [
    | inl fine ↦ fine
    | inr whole ↦ absurd (omega (arith, short, all_whole j lj whole i l))
  ]

  -- where none is, the prefix is an order
  pub whole_order : ((i : ℕ) → i < length logs → length (log_of logs i) ≤ at i) → HasOrder logs
  whole_order whole = (
    matches,
    p.order,
    kept_order logs p.order are.ring.0 (record {
      matches = matches;
      schedule = p.ordered;
      whole = λ i l. omega (arith, whole i l, p.holds i l, p.ordered.within i l);
    }),
  )

  module _ (short : (i : ℕ) → i < length logs → at i < length (log_of logs i)) where
    -- the event at which node i is stuck is no sending
    pub received : (j : ℕ) → j < length logs → (load : Load) × (slice_get (log_of logs j) (at j) ≡ Some (Got load))
    received j lj =
        let i : ℕ = prev (length logs) j in
        let l : prev (length logs) j < length logs = prev_below (length logs) j lj in
        let to : next (length logs) (prev (length logs) j) ≡ j = next_prev (length logs) j lj in
        let P : ℕ → Type 0 = λ k. (load : Load) × (slice_get (log_of logs k) (at k) ≡ Some (Got load)) in
        let s = stuck_event (prev (length logs) j) l
        (short (next (length logs) (prev (length logs) j)) (next_below (length logs) (prev (length logs) j) l)) in
        subst P to (s.load, s.at_event ∙ ap Some (is_receipt s.event s.load s.receives))

    -- its sending stands after the event at which its sender is stuck
    pub after_stuck : (i a : ℕ) → IsPair logs i a (at (next (length logs) i) + 1) → at i + 1 < a
    after_stuck i a pair =
        let l = pair.link in
        let s = stuck_event i l (short (next (length logs) i) (next_below (length logs) i l)) in
        let k : SendingOf (log_of logs i) a = sending_of (log_of logs i) a pair.message pair.sends in
        let more : length (sent (take a (log_of logs i))) ≡ length (sent (take (at i) (log_of logs i))) + 1 =
        pair.rank ∙ s.next_rank in
        elim (cases_lt k.place (at i)) [
          | inl low ↦ absurd (omega (
            arith,
            more,
            rank_mono sending (log_of logs i) a (at i) (omega (arith, low, k.number)),
          ))
          | inr high ↦ elim (cases_eq k.place (at i)) [
            | inr other ↦ omega (arith, high, other, k.number)
            | inl same ↦
                let r = received i l in
                let number : a ≡ at i + 1 = omega (arith, k.number, same) in
                let here : numbered (log_of logs i) (at i + 1) ≡ Some (Got r.0) =
                at_number (log_of logs i) (at i) (Got r.0) r.1 in
                let there : numbered (log_of logs i) (at i + 1) ≡ Some (Sent pair.message) =
                subst (λ n. numbered (log_of logs i) n ≡ Some (Sent pair.message)) number pair.sends in
                absurd cc
          ]
        ]

    pub stuck_pair : (i : ℕ) → i < length logs → (a : ℕ) × IsPair logs i a (at (next (length logs) i) + 1)
    stuck_pair i l =
        let ln : next (length logs) i < length logs = next_below (length logs) i l in
        let s = stuck_event i l (short (next (length logs) i) ln) in
        let n : ℕ = length (log_of logs (next (length logs) i)) in
        let b : Ranked receipt (log_of logs (next (length logs) i)) (length (log_of logs (next (length logs) i)))
        (length (sent (take (at i) (log_of logs i)))) (Draw 0) = record {
          place = at (next (length logs) i);
          below = short (next (length logs) i) ln;
          rank = s.rank;
          next_rank = s.next_rank;
          message = s.load;
          is = ap receipt (get_or_from_slice_get (log_of logs (next (length logs) i)) (at (next (length logs) i))
              s.event (Draw 0) s.at_event) ∙ s.receives;
        } in
        let found = pair_of logs i (length (log_of logs (next (length logs) i)))
        (length (sent (take (at i) (log_of logs i)))) matches l (omega arith) b in
        (suc found.0.place, rw (add-one (at (next (length logs) i))) found.1)

    pub waiting : (j : ℕ) → j < length logs → IsWaiting logs j (at j)
    waiting j lj =
        let r = received j lj in
        let found = stuck_pair (prev (length logs) j) (prev_below (length logs) j lj) in
        let pair : IsPair logs (prev (length logs) j) found.0 (at j + 1) =
        subst (λ k. IsPair logs (prev (length logs) j) found.0 (at k + 1)) (next_prev (length logs) j lj) found.1 in
        record { load = r.0; receives = r.1; sending = found.0; pair = pair }

    pub circle : IsCircle logs cut
    circle = record {
      places = p.places;
      waits = λ i l.
          let found = stuck_pair i l in
          (found.0, found.1, after_stuck i found.0 found.1);
    }

  pub ends_in_circle : HasOrder logs ⊎ IsCircle logs cut
  ends_in_circle = elim (order_or_circle logs are matches) [
    | inl order ↦ inl order
    | inr none ↦ inr (circle (λ i l. elim (cases_lt (at i) (length (log_of logs i))) [
      | inl fine ↦ fine
      | inr whole ↦ absurd (none.1 (whole_order (all_whole i l whole)).1 (whole_order (all_whole i l whole)).2)
    ]))
  ]

-- logs with such a circle have no order
pub no_order : (logs : List Log) (cut order : List ℕ) → AreLogs logs → IsCircle logs cut → IsOrder logs order → ⊥
no_order logs cut order are c o =
    let some : 0 < length logs = omega (arith, are.ring.0) in
    let x : ℕ → ℕ = λ i. slice_index cut i + 1 in
    let P : ℕ → Type 0 = λ j. Before logs 0 (slice_index cut 0 + 1) j (slice_index cut j + 1) in
    let on : (j : ℕ) → j < length logs → P j → P (next (length logs) j) = λ j l so_far. onward so_far (step j l) in
    let self : P 0 = around (length logs) P on (next (length logs) 0) 0 (next_below (length logs) 0 some) some
    (step 0 some) in
    omega (arith, before_own logs order o 0 (slice_index cut 0 + 1) (slice_index cut 0 + 1) self)
  where
    step : (j : ℕ) → j < length logs
        → Before logs j (slice_index cut j + 1) (next (length logs) j) (slice_index cut (next (length logs) j) + 1)
    step j l =
        let w = c.waits j l in
        let s = sending_of (log_of logs j) w.0 w.1.message w.1.sends in
        onward (own refl l (omega arith) w.2 (omega (arith, s.number, s.below))) (message refl w.1)
