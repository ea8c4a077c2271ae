-- How stamps are added.
use Rattle.std.proofs.Common.{◌≡◌, ◌≢◌, ℕ, zero, suc, ◌+◌, ◌-◌, ◌*◌, ◌<◌, ◌≤◌, ◌⊎◌, inl, inr, List, [], ◌++◌, length}
use Rattle.std.proofs.Common.{refl, sym, ◌∙◌, ap, arith, take, get_or, Some, add-one, length-append, min}
use Rattle.std.specs.Prelude.{slice_get, slice_index}
use Rattle.std.specs.List.{cons_option}
use Rattle.ira_event.specs.declared.event.Event.{Event}
use Rattle.ira_event.specs.declared.event.Event.TheVariants.{Got, Sent}
use Rattle.ira_event.specs.declared.load.Load.{Load}
use Rattle.ira_event.specs.Log.{Log}
use Rattle.ira_order.specs.Ring.{log_of, next, numbered}
use Rattle.ira_order.specs.Matching.{sent, got, sending, Matches}
use Rattle.ira_order.specs.Order.{IsOrder, IsPair}
use Rattle.ira_order.specs.Counts.{Covers}
use Rattle.ira_order.specs.VectorClock.{IsCount}
use Rattle.ira_order.specs.Stamps.{NodeStamps, receipts_by, counter, counters_at, CountsAt, CountsSent, HaveStamps}
use Rattle.ira_order.specs.Stamps.{IsStamp, IsStamping}
use Rattle.ira_order.proofs.Ranks.{rank_mono, next_below}
use Rattle.std.proofs.lemmas.Bool.{cases_lt, cases_eq}
use Rattle.ira_order.proofs.OrderPrefixes.{counted_more, sends_nothing}
use Rattle.ira_order.proofs.Runs.{prev_next}
use Rattle.ira_order.proofs.Counting.{count_own, count_stays, count_taken, counts_all}
use Rattle.ira_order.proofs.Receipts.{receipts_by_le}
use Rattle.std.proofs.lemmas.List.{get_or-take, get_or-append_right, get_or_append_left, get_or_past, length-take-le}
use Rattle.std.proofs.lemmas.Option.{slice_get_within}
use Rattle.std.proofs.lemmas.Nat.{mul-add-lt, mul-le}

-- a stamp is put after s others
module _ (n s : ℕ) (counters row : List ℕ) (full : length counters ≡ s * n) (wide : length row ≡ n) where
  pub counter_new : (x : ℕ) → x < n → counter n (counters ++ row) (suc s) x ≡ slice_index row x
  counter_new x l = get_or-append_right counters row (s * n) (s * n + x) 0 full (omega arith)
      ∙ ap (λ (y : ℕ). get_or row y 0) (let e : s * n + x - s * n ≡ x = omega arith in e)

  pub counter_old : (g x : ℕ) → x < n → g ≢ suc s → counter n (counters ++ row) g x ≡ counter n counters g x
  counter_old zero x l ne = refl
  counter_old (suc r) x l ne = elim (cases_lt r s) [
    | inl before ↦ get_or_append_left counters row 0 (r * n + x) (omega (arith, full, mul-add-lt r n x s before l))
    | inr after ↦
        let past : (s + 1) * n ≤ r * n = mul-le (s + 1) n r n (omega arith) (omega arith) in
        get_or_past (counters ++ row) (r * n + x) 0 (omega (arith, length-append counters row, full, wide, past))
        ∙ sym (get_or_past counters (r * n + x) 0 (omega (arith, full, past)))
  ]

module _ (logs : List Log) (order : List ℕ) (o : IsOrder logs order) (matches : Matches logs) (at at' : ℕ
    → ℕ) (k : ℕ) (old : List NodeStamps)
    (lk : k < length logs)
    (one : at' k ≡ at k + 1)
    (same : (j : ℕ) → j ≢ k → at' j ≡ at j)
    (covers : Covers logs at)
    (stamped : CountsSent logs old at) where
  up_to : (l a : ℕ) → a ≤ at' l → (a ≤ at l) ⊎ ((l ≡ k) × (a ≡ suc (at k)))
  up_to l a h = elim (cases_eq l k) [
    | inr ne ↦ inl (omega (arith, same l ne))
    | inl e ↦ elim (cases_lt (at l) a) [
      | inr fine ↦ inl fine
      | inl top ↦ (let h' : a ≤ at' k = rw (← e) h in let top' : at k < a = rw (← e) top in inr (e, omega (arith, one)))
    ]
  ]

  -- an event that is no sending
  pub sent_stays : (e : Event) → slice_get (log_of logs k) (at k) ≡ Some e → ((m : Load) → e ≡ Sent m → ⊥)
      → CountsSent logs old at'
  sent_stays e is never l a b pair h = elim (up_to l a h) [
    | inl below ↦ stamped l a b pair below
    | inr top ↦
        let sends : numbered (log_of logs k) (suc (at k)) ≡ Some (Sent pair.message) =
        rw (top.0, top.1) at pair.sends in
        absurd (never pair.message (let z : Some e ≡ Some (Sent pair.message) = sym is ∙ sends in cc))
  ]

  -- how many messages each node has sent by then
  sent_same : (l : ℕ) → l ≢ k → length (sent (take (at' l) (log_of logs l)))
      ≡ length (sent (take (at l) (log_of logs l)))
  sent_same l ne = ap (λ (x : ℕ). length (sent (take x (log_of logs l)))) (same l ne)

  sent_then : (e : Event) → slice_get (log_of logs k) (at k) ≡ Some e
      → length (sent (take (at' k) (log_of logs k)))
      ≡ length (sent (take (at k) (log_of logs k))) + length (cons_option (sending e) [])
  sent_then e is =
      ap (λ (x : ℕ). length (sent (take x (log_of logs k)))) one
      ∙ counted_more sending (log_of logs k) (at k) e is

  pub stamps_same : (e : Event) → slice_get (log_of logs k) (at k) ≡ Some e → ((m : Load) → e ≡ Sent m → ⊥)
      → HaveStamps logs old at → HaveStamps logs old at'
  stamps_same e is never have l ll =
      rw (sent_as l) (have l ll)
    where
      sent_as : (l : ℕ) → length (sent (take (at' l) (log_of logs l))) ≡ length (sent (take (at l) (log_of logs l)))
      sent_as l = elim (cases_eq l k) [
        | inl e' ↦ rw e' (omega (arith, sent_then e is, sends_nothing e never))
        | inr ne ↦ sent_same l ne
      ]

  module _ (new : List NodeStamps) (m : Load) (a h s : ℕ)
      (is : slice_get (log_of logs k) (at k) ≡ Some (Sent m))
      (a_is : a ≡ suc (at k))
      (h_is : h ≡ receipts_by logs k (at k))
      (s_is : s ≡ length (sent (take (at k) (log_of logs k))))
      (have : HaveStamps logs old at)
      (stamping : IsStamping logs old new k h s a) where
    -- as many stamps as sendings, while there are receipts
    full : s < length (got (log_of logs (next (length logs) k)))
        → length (counters_at old (next (length logs) k)) ≡ s * length logs
    full low =
        let least : min (length (sent (take (at k) (log_of logs k))))
        (length (got (log_of logs (next (length logs) k)))) ≡ s = omega (arith, s_is, low) in
        rw least at (have k lk)

    wide : (row : List ℕ) → IsStamp logs old k h a row → length (take (length logs) row) ≡ length logs
    wide row is = length-take-le (length logs) row is.wide

    stamped_new : (low : s < length (got (log_of logs (next (length logs) k)))) (i : ℕ) → i < length logs
        → counter (length logs) (counters_at new (next (length logs) k)) (suc s) i ≡ slice_index (stamping.more low).0 i
    stamped_new low i li =
        let r = stamping.more low in
        ap (λ (cs : List ℕ). counter (length logs) cs (suc s) i) r.2
        ∙ counter_new (length logs) s (counters_at old (next (length logs) k)) (take (length logs) r.0) (full low)
        (wide r.0 r.1) i li
        ∙ get_or-take (length logs) r.0 i 0 li

    stamped_old : (l f i : ℕ) → i < length logs → (l ≢ next (length logs) k) ⊎ (f ≢ suc s)
        → counter (length logs) (counters_at new l) f i ≡ counter (length logs) (counters_at old l) f i
    stamped_old l f i li ne = elim (cases_eq l (next (length logs) k)) [
      | inr other ↦ ap (λ (cs : List ℕ). counter (length logs) cs f i) (stamping.others l other)
      | inl here ↦ elim ne [
        | inl other ↦ absurd (other here)
        | inr other ↦ rw here (elim (cases_lt s (length (got (log_of logs (next (length logs) k))))) [
          | inl low ↦
              let r = stamping.more low in
              ap (λ (cs : List ℕ). counter (length logs) cs f i) r.2
              ∙ counter_old (length logs) s (counters_at old (next (length logs) k)) (take (length logs) r.0) (full low)
              (wide r.0 r.1) f i li other
          | inr past ↦ ap (λ (cs : List ℕ). counter (length logs) cs f i) (stamping.none past)
        ])
      ]
    ]

    -- one stamp more, or as many as receipts
    pub stamps_have : HaveStamps logs new at'
    stamps_have l ll = elim (cases_eq l k) [
      | inr ne ↦
          let elsewhere : next (length logs) l ≢ next (length logs) k =
          λ q. ne (prev_next (length logs) (next (length logs) l) l (next_below (length logs) l ll) ll refl
          ∙ sym (prev_next (length logs) (next (length logs) l) k (next_below (length logs) l ll) lk (sym q))) in
          rw (stamping.others (next (length logs) l) elsewhere, sent_same l ne) (have l ll)
      | inl e ↦ rw e (elim (cases_lt s (length (got (log_of logs (next (length logs) k))))) [
        | inl low ↦
            let r = stamping.more low in
            let most : min (length (sent (take (at' k) (log_of logs k))))
            (length (got (log_of logs (next (length logs) k)))) ≡ s + 1 =
            omega (arith, sent_then (Sent m) is, s_is, low) in
            rw (most, r.2) (omega (
              arith,
              length-append (counters_at old (next (length logs) k)) (take (length logs) r.0),
              full low,
              wide r.0 r.1,
            ))
        | inr past ↦
            let before : min (length (sent (take (at k) (log_of logs k))))
            (length (got (log_of logs (next (length logs) k))))
            ≡ length (got (log_of logs (next (length logs) k))) = omega (arith, s_is, past) in
            let most : min (length (sent (take (at' k) (log_of logs k))))
            (length (got (log_of logs (next (length logs) k))))
            ≡ length (got (log_of logs (next (length logs) k))) =
            omega (arith, sent_then (Sent m) is, s_is, past) in
            let had = rw before at (have k lk) in
            rw (most, stamping.none past) had
      ])
    ]

    within : at k < length (log_of logs k)
    within = slice_get_within (log_of logs k) (at k) (Sent m) is

    rank : length (sent (take (suc (at k)) (log_of logs k))) ≡ suc s
    rank =
        let more : length (sent (take (at k + 1) (log_of logs k))) ≡ length (sent (take (at k) (log_of logs k))) + 1 =
        counted_more sending (log_of logs k) (at k) (Sent m) is in
        rw (← add-one (at k)) (omega (arith, more, s_is))

    -- the sending counts as its stamp says
    sending_counts : (i : ℕ) → i < length logs → i ≢ k
        → IsCount logs k (suc (at k)) i (counter (length logs) (counters_at old k) h i)
    sending_counts i li ne =
        rw h_is (count_stays logs order o k (at k) i _ lk ne within (λ n q.
        (let z : Some (Sent m) ≡ Some (Got n) = sym is ∙ q in cc))
        (counts_all logs order o old at matches covers stamped k (at k) lk (omega arith) (omega (arith, within)) i li
        ne))

    new_pair : (b : ℕ) → IsPair logs k (suc (at k)) b → CountsAt logs new (next (length logs) k) b
    new_pair b pair i li ne =
        let g : receipts_by logs (next (length logs) k) b ≡ suc s = sym pair.rank ∙ rank in
        let low : s < length (got (log_of logs (next (length logs) k))) =
        omega (arith, g, receipts_by_le logs (next (length logs) k) b) in
        rw g (elim (cases_eq i k) [
          | inl e ↦
              let own : IsCount logs k (suc (at k)) k (suc (at k)) =
              count_own logs order o k (suc (at k)) lk (omega (arith, within)) in
              let v : counter (length logs) (counters_at new (next (length logs) k)) (suc s) k ≡ suc (at k) =
              stamped_new low k lk ∙ (stamping.more low).1.own ∙ a_is in
              let ne' : k ≢ next (length logs) k = λ q. ne (e ∙ q) in
              rw (e, v) (count_taken logs order o k (suc (at k)) b k (suc (at k)) ne' pair own)
          | inr other ↦ rw (stamped_new low i li ∙ (stamping.more low).1.sender i li other)
              (count_taken logs order o k (suc (at k)) b i _ ne pair (sending_counts i li other))
        ])

    old_pair : (l c b : ℕ) → c ≤ at l → IsPair logs l c b → CountsAt logs new (next (length logs) l) b
    old_pair l c b below pair i li ne =
        let lj : next (length logs) l < length logs = next_below (length logs) l pair.link in
        let elsewhere : (next (length logs) l ≢ next (length logs) k)
        ⊎ (receipts_by logs (next (length logs) l) b ≢ suc s) = elim (cases_eq l k) [
          | inl e ↦ inr (λ q. (let below' : c ≤ at k = rw e at below in
              let r : length (sent (take c (log_of logs k))) ≡ suc s = rw e at (pair.rank ∙ q) in
              omega (arith, r, s_is, rank_mono sending (log_of logs k) c (at k) below')))
          | inr other ↦ inl (λ q. other (prev_next (length logs) (next (length logs) l) l lj pair.link refl
              ∙ sym (prev_next (length logs) (next (length logs) l) k lj lk (sym q))))
        ] in
        rw (stamped_old (next (length logs) l) (receipts_by logs (next (length logs) l) b) i li elsewhere)
        (stamped l c b pair below i li ne)

    -- a sending, and the stamp of its receipt
    pub sent_more : CountsSent logs new at'
    sent_more l c b pair high = elim (up_to l c high) [
      | inl below ↦ old_pair l c b below pair
      | inr top ↦ (let pair' : IsPair logs k (suc (at k)) b = rw (top.0, top.1) at pair in rw top.0 (new_pair b pair'))
    ]
