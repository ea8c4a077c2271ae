-- The same of orders and cuts, said by pairs of events and said by numbers of receipts and sendings.
use Rattle.std.proofs.Common.{◌≡◌, ◌≢◌, ℕ, zero, suc, ◌+◌, ◌<◌, ◌≤◌, inl, inr, List, [], length, refl, sym, ◌∙◌, ap}
use Rattle.std.proofs.Common.{arith, get_or, take, Some, add-one}
use Rattle.std.specs.List.{cons_option}
use Rattle.ira_event.specs.declared.event.Event.{Event}
use Rattle.ira_event.specs.declared.load.Load.{Load}
use Rattle.ira_event.specs.Log.{Log}
use Rattle.ira_event.specs.declared.event.Event.TheVariants.{Sent, Draw}
use Rattle.ira_order.specs.Ring.{log_of, next, numbered}
use Rattle.ira_order.specs.Matching.{sent, got, sending, receipt, Matches}
use Rattle.ira_order.specs.Order.{occurrences, IsPair, IsOrder, StandsAt}
use Rattle.ira_order.specs.Counts.{IsKept, Covers, IsWholeSchedule}
use Rattle.ira_order.specs.Before.{Before, own, message, onward}
use Rattle.ira_order.specs.Cut.{HoldsAllBefore}
use Rattle.ira_order.proofs.Ranks.{rank_mono, occurrences_same, occurrences_other, occurrences_mono}
use Rattle.ira_order.proofs.Ranks.{occurrences-take-le, next_other, next_below}
use Rattle.std.proofs.lemmas.Bool.{cases_lt}
use Rattle.ira_order.proofs.OrderPrefixes.{rank_more}
use Rattle.ira_order.proofs.Places.{Ranked, ranked, stands, is_sending, is_receipt, fewer_receipts}
use Rattle.std.proofs.lemmas.Option.{slice_get-get_or, get_or_from_slice_get, slice_get_within}
use Rattle.std.proofs.lemmas.List.{take_all}

-- the event before a pair's sending
pub record SendingOf (es : List Event) (a : ℕ) : Type 0 where
  pub place : ℕ
  pub number : a ≡ suc place
  pub below : place < length es
  pub rank : length (sent (take a es)) ≡ length (sent (take place es)) + 1

pub sending_of : (es : List Event) (a : ℕ) (m : Load) → numbered es a ≡ Some (Sent m) → SendingOf es a
sending_of es zero m h = cc
sending_of es (suc a) m h =
    let l : a < length es = slice_get_within es a (Sent m) h in
    let e : get_or es a (Draw 0) ≡ Sent m = get_or_from_slice_get es a (Sent m) (Draw 0) h in
    record {
      place = a;
      number = refl;
      below = l;
      rank = rw (← add-one a) (rank_more sending es a (Draw 0) l
          ∙ ap (λ (x : Event). length (sent (take a es)) + length (cons_option (sending x) [])) e);
    }

-- the sending that is paired with the receipt of rank r
pub pair_of : (logs : List Log) (i n r : ℕ) → Matches logs → i < length logs
    → n ≤ length (log_of logs (next (length logs) i))
    → (b : Ranked receipt (log_of logs (next (length logs) i)) n r (Draw 0))
    → (a : Ranked sending (log_of logs i) (length (log_of logs i)) r (Draw 0))
    × IsPair logs i (suc a.place) (suc b.place)
pair_of logs i n r matches l within b =
    let up : length (got (take (b.place + 1) (log_of logs (next (length logs) i))))
    ≤ length (got (take (length (log_of logs (next (length logs) i))) (log_of logs (next (length logs) i)))) =
    rank_mono receipt (log_of logs (next (length logs) i)) (b.place + 1) (length (log_of logs (next (length logs) i)))
    (omega (arith, b.below)) in
    let whole : take (length (log_of logs (next (length logs) i))) (log_of logs (next (length logs) i))
    ≡ log_of logs (next (length logs) i) =
    take_all (length (log_of logs (next (length logs) i))) (log_of logs (next (length logs) i)) (omega arith) in
    let up' = rw whole at up in
    let whole_i : take (length (log_of logs i)) (log_of logs i) ≡ log_of logs i =
    take_all (length (log_of logs i)) (log_of logs i) (omega arith) in
    let high : r < length (sent (take (length (log_of logs i)) (log_of logs i))) =
    rw whole_i (omega (arith, up', b.next_rank, fewer_receipts logs i matches l)) in
    let a : Ranked sending (log_of logs i) (length (log_of logs i)) r (Draw 0) =
    ranked sending (log_of logs i) (length (log_of logs i)) r (Draw 0) (omega arith) high in (
      a,
      record {
        message = a.message;
        taken = b.message;
        link = l;
        sends = slice_get-get_or (log_of logs i) a.place (Draw 0) a.below
            ∙ ap Some (is_sending (get_or (log_of logs i) a.place (Draw 0)) a.message a.is);
        receives = slice_get-get_or (log_of logs (next (length logs) i)) b.place (Draw 0) (omega (arith, b.below))
            ∙ ap Some (is_receipt (get_or (log_of logs (next (length logs) i)) b.place (Draw 0)) b.message b.is);
        rank = rw (← add-one a.place, ← add-one b.place) (a.next_rank ∙ sym b.next_rank);
      },
    )

-- a consistent cut has no more receipts than sendings on a link
pub consistent_covers : (logs : List Log) (at : ℕ → ℕ) → Matches logs
    → ((i : ℕ) → i < length logs → at i ≤ length (log_of logs i)) → HoldsAllBefore logs at → Covers logs at
consistent_covers logs at matches within consistent i l =
    let lj : next (length logs) i < length logs = next_below (length logs) i l in
    elim (cases_lt (length (sent (take (at i) (log_of logs i))))
    (length (got (take (at (next (length logs) i)) (log_of logs (next (length logs) i)))))) [
      | inr fine ↦ fine
      | inl more ↦
          let b : Ranked receipt (log_of logs (next (length logs) i)) (at (next (length logs) i))
          (length (sent (take (at i) (log_of logs i)))) (Draw 0) =
          ranked receipt (log_of logs (next (length logs) i)) (at (next (length logs) i))
          (length (sent (take (at i) (log_of logs i)))) (Draw 0) (within (next (length logs) i) lj) more in
          let p = pair_of logs i (at (next (length logs) i)) (length (sent (take (at i) (log_of logs i)))) matches l
          (within (next (length logs) i) lj) b in
          let held : suc p.0.place ≤ at i =
          consistent i (suc p.0.place) (next (length logs) i) (suc b.place) (message refl p.1)
          (omega (arith, b.below)) in
          absurd (omega (
            arith,
            p.0.next_rank,
            rank_mono sending (log_of logs i) (p.0.place + 1) (at i) (omega (arith, held)),
          ))
    ]

-- and a cut with no more receipts than sendings is consistent
pub covers_consistent : (logs : List Log) (at : ℕ → ℕ) → Covers logs at → (i a j b : ℕ) → Before logs i a j b → b ≤ at j
    → a ≤ at i
covers_consistent logs at covers i a j b (own same l one lower upper) h = rw same (omega arith)
covers_consistent logs at covers i a j b (message same pair) h =
    let s : SendingOf (log_of logs i) a = sending_of (log_of logs i) a pair.message pair.sends in
    let c = covers i pair.link in
    let h' : b ≤ at (next (length logs) i) = rw same h in
    elim (cases_lt (at i) a) [
      | inr fine ↦ fine
      | inl short ↦ absurd (omega (
        arith,
        c,
        s.rank,
        pair.rank,
        rank_mono receipt (log_of logs (next (length logs) i)) b (at (next (length logs) i)) h',
        rank_mono sending (log_of logs i) (at i) s.place (omega (arith, s.number)),
      ))
    ]
covers_consistent logs at covers i a j b (onward first second) h =
    covers_consistent logs at covers _ _ _ _ first (covers_consistent logs at covers _ _ _ _ second h)

-- an order is kept at each of its beginnings
pub order_kept : (logs : List Log) (order : List ℕ) → 2 ≤ length logs → Matches logs → IsOrder logs order
    → IsKept logs order
order_kept logs order two matches o t lt i l =
    let lj : next (length logs) i < length logs = next_below (length logs) i l in
    let cj : occurrences (take t order) (next (length logs) i) ≤ length (log_of logs (next (length logs) i)) =
    omega (arith, occurrences-take-le order t (next (length logs) i), o.whole (next (length logs) i) lj) in
    elim (cases_lt (length (sent (take (occurrences (take t order) i) (log_of logs i))))
    (length (got (take (occurrences (take t order) (next (length logs) i)) (log_of logs (next (length logs) i)))))) [
      | inr fine ↦ fine
      | inl more ↦
          let b : Ranked receipt (log_of logs (next (length logs) i))
          (occurrences (take t order) (next (length logs) i))
          (length (sent (take (occurrences (take t order) i) (log_of logs i)))) (Draw 0) =
          ranked receipt (log_of logs (next (length logs) i)) (occurrences (take t order) (next (length logs) i))
          (length (sent (take (occurrences (take t order) i) (log_of logs i)))) (Draw 0) cj more in
          let p = pair_of logs i (occurrences (take t order) (next (length logs) i))
          (length (sent (take (occurrences (take t order) i) (log_of logs i)))) matches l cj b in
          let tb = stands order t (next (length logs) i) b.place lt b.below in
          let whole : take (length order) order ≡ order = take_all (length order) order (omega arith) in
          let room : p.0.place < occurrences (take (length order) order) i =
          rw whole (omega (arith, p.0.below, o.whole i l)) in
          let sa = stands order (length order) i p.0.place (omega arith) room in
          let sa_stands : StandsAt order sa.0 i (suc p.0.place) =
          (slice_get-get_or order sa.0 0 sa.1 ∙ ap Some sa.2, omega (arith, sa.3)) in
          let tb_stands : StandsAt order tb.0 (next (length logs) i) (suc b.place) =
          (slice_get-get_or order tb.0 0 (omega (arith, tb.1)) ∙ ap Some tb.2, omega (arith, tb.3)) in
          let before : sa.0 < tb.0 = o.after i (suc p.0.place) (suc b.place) sa.0 tb.0 p.1 sa_stands tb_stands in
          let held : p.0.place + 1 ≤ occurrences (take t order) i =
          omega (arith, sa.4, occurrences_mono order (sa.0 + 1) t i (omega (arith, before, tb.1))) in
          absurd (omega (
            arith,
            p.0.next_rank,
            rank_mono sending (log_of logs i) (p.0.place + 1) (occurrences (take t order) i) held,
          ))
    ]

pub kept_order : (logs : List Log) (order : List ℕ) → 2 ≤ length logs → IsWholeSchedule logs order → IsOrder logs order
kept_order logs order two w = record {
  places = w.schedule.places;
  whole = w.whole;
  after = λ i a b s t pair si tj.
      let k : SendingOf (log_of logs i) a = sending_of (log_of logs i) a pair.message pair.sends in
      let ls : s < length order = slice_get_within order s i si.0 in
      let lt : t < length order = slice_get_within order t (next (length logs) i) tj.0 in
      let at_s : get_or order s 0 ≡ i = get_or_from_slice_get order s i 0 si.0 in
      let at_t : get_or order t 0 ≡ next (length logs) i =
      get_or_from_slice_get order t (next (length logs) i) 0 tj.0 in
      elim (cases_lt s t) [
        | inl fine ↦ fine
        | inr late ↦
            let ne : get_or order t 0 ≢ i = λ q. next_other (length logs) i two pair.link (sym at_t ∙ q) in
            let c = w.schedule.kept (t + 1) (omega arith) i pair.link in
            let is_b : occurrences (take (t + 1) order) (next (length logs) i) ≡ b =
            occurrences_same order t (next (length logs) i) lt at_t ∙ tj.1 in
            let is_a : occurrences (take (t + 1) order) i ≤ k.place =
            omega (arith, occurrences_other order t i lt ne, occurrences_mono order t s i late, si.1, k.number) in
            let c' = rw is_b at c in
            absurd (omega (
              arith,
              c',
              k.rank,
              pair.rank,
              rank_mono sending (log_of logs i) (occurrences (take (t + 1) order) i) k.place is_a,
            ))
      ];
}

-- an order of logs that match, said either way
pub order_schedule : (logs : List Log) (order : List ℕ) → 2 ≤ length logs → Matches logs → IsOrder logs order
    → IsWholeSchedule logs order
order_schedule logs order two matches o = record {
  matches = matches;
  schedule = record {
    places = o.places;
    within = λ i l. omega (arith, o.whole i l);
    kept = order_kept logs order two matches o;
  };
  whole = o.whole;
}

-- events that happened before one another are of nodes of the ring
pub before_places : (logs : List Log) (i a j b : ℕ) → Before logs i a j b → (i < length logs) × (j < length logs)
before_places logs i a j b (own e l one lower upper) = rw (← e) (l, l)
before_places logs i a j b (message e pair) = rw (← e) (pair.link, next_below (length logs) i pair.link)
before_places logs i a j b (onward f g) =
    (let x = before_places logs _ _ _ _ f in let y = before_places logs _ _ _ _ g in (x.0, y.1))
