-- The greater and the lesser of consistent beginnings, and the greatest one.
use Rattle.std.proofs.Common.{◌≡◌, ℕ, zero, suc, ◌+◌, ◌-◌, ◌<◌, ◌≤◌, ◌⊎◌, inl, inr, false, List, [], length, map, sym}
use Rattle.std.proofs.Common.{◌∙◌, ap, arith, set, length-set, get_or-set_same, get_or-set_other}
use Rattle.std.specs.Prelude.{slice_index}
use Rattle.std.specs.List.{sum_by}
use Rattle.std.proofs.lemmas.Bool.{cases_eq, cases_lt}
use Rattle.std.proofs.lemmas.List.{get_or-map, length-map}
use Rattle.std.proofs.lemmas.List.Sums.{sum_by-set}
use Rattle.std.proofs.lemmas.Option.{slice_get-get_or}
use Rattle.ira_event.specs.Log.{Log}
use Rattle.ira_order.specs.Cut.{IsCut, IsJoin, IsMeet}
use Rattle.ira_order.specs.Matching.{receipt, sending}
use Rattle.ira_order.specs.Ring.{events_of, log_of, next}
use Rattle.ira_order.proofs.Ranks.{next_below, rank_mono}
use Rattle.ira_order.proofs.CutLattice.{either}
use Rattle.ira_mend.specs.Beginning.{IsConsistentBeginning, IsGreatestBeginning, receipts_in, sendings_in}

-- more events are no fewer sendings, and no fewer receipts
more_sendings : (logs : List Log) (i m n : ℕ) → m ≤ n → sendings_in logs i m ≤ sendings_in logs i n
more_sendings logs i m n l = rank_mono sending (log_of logs i) m n l

more_receipts : (logs : List Log) (i m n : ℕ) → m ≤ n → receipts_in logs i m ≤ receipts_in logs i n
more_receipts logs i m n l = rank_mono receipt (log_of logs i) m n l

pub join_begins : (logs : List Log) (a b cut : List ℕ) → IsConsistentBeginning logs a → IsConsistentBeginning logs b
    → IsJoin logs a b cut → IsConsistentBeginning logs cut
join_begins logs a b cut ca cb join = record {
  cut_is = record {
    places = join.places;
    within = λ i l. omega (arith, join.greater i l, ca.cut_is.within i l, cb.cut_is.within i l);
  };
  sendings = λ i l.
      let j = next (length logs) i in
      let lj = next_below (length logs) i l in
      elim (either (slice_index a (next (length logs) i)) (slice_index b (next (length logs) i))) [
        | inl h ↦
            let at : slice_index cut (next (length logs) i) ≡ slice_index b (next (length logs) i) =
            omega (arith, join.greater (next (length logs) i) lj) in
            let less = more_sendings logs i (slice_index b i) (slice_index cut i) (omega (arith, join.greater i l)) in
            rw at (omega (arith, cb.sendings i l, less))
        | inr h ↦
            let at : slice_index cut (next (length logs) i) ≡ slice_index a (next (length logs) i) =
            omega (arith, join.greater (next (length logs) i) lj) in
            let less = more_sendings logs i (slice_index a i) (slice_index cut i) (omega (arith, join.greater i l)) in
            rw at (omega (arith, ca.sendings i l, less))
      ];
}

pub meet_begins : (logs : List Log) (a b cut : List ℕ) → IsConsistentBeginning logs a → IsConsistentBeginning logs b
    → IsMeet logs a b cut → IsConsistentBeginning logs cut
meet_begins logs a b cut ca cb meet = record {
  cut_is = record {
    places = meet.places;
    within = λ i l. omega (arith, meet.lesser i l, ca.cut_is.within i l, cb.cut_is.within i l);
  };
  sendings = λ i l.
      let lj = next_below (length logs) i l in
      elim (either (slice_index a i) (slice_index b i)) [
        | inl h ↦
            let at : slice_index cut i ≡ slice_index a i = omega (arith, meet.lesser i l) in
            let less = more_receipts logs (next (length logs) i) (slice_index cut (next (length logs) i))
            (slice_index a (next (length logs) i)) (omega (arith, meet.lesser (next (length logs) i) lj)) in
            rw at (omega (arith, ca.sendings i l, less))
        | inr h ↦
            let at : slice_index cut i ≡ slice_index b i = omega (arith, meet.lesser i l) in
            let less = more_receipts logs (next (length logs) i) (slice_index cut (next (length logs) i))
            (slice_index b (next (length logs) i)) (omega (arith, meet.lesser (next (length logs) i) lj)) in
            rw at (omega (arith, cb.sendings i l, less))
      ];
}

-- ---- the greatest one, by giving up an event at a time

-- the link lacks a sending of a receipt in the cut
abbrev pub Lacks : List Log → List ℕ → ℕ → Type 0
Lacks logs cut link =
    sendings_in logs link (slice_index cut link)
    < receipts_in logs (next (length logs) link) (slice_index cut (next (length logs) link))

-- the cut without the last event of the link's reader
abbrev pub lowered : List Log → List ℕ → ℕ → List ℕ
lowered logs cut link = set cut (next (length logs) link) (slice_index cut (next (length logs) link) - 1)

module _ (logs : List Log) where
  -- all links have their sendings, or one hasn't
  all_or_one : (cut : List ℕ) (k : ℕ) → k ≤ length logs
      → ((i : ℕ) → i < k → receipts_in logs (next (length logs) i) (slice_index cut (next (length logs) i))
      ≤ sendings_in logs i (slice_index cut i))
      ⊎ ((i : ℕ) × (i < length logs) × Lacks logs cut i)
  all_or_one cut zero l = inl (λ i lt. absurd (omega (arith, lt)))
  all_or_one cut (suc k) l = elim (all_or_one cut k (omega arith)) [
    | inr one ↦ inr one
    | inl below ↦ elim (cases_lt (sendings_in logs k (slice_index cut k))
        (receipts_in logs (next (length logs) k) (slice_index cut (next (length logs) k)))) [
          | inl bad ↦ inr (k, omega arith, bad)
          | inr good ↦ inl (λ i lt. elim (cases_eq i k) [
            | inl same ↦ rw same good
            | inr other ↦ below i (omega (arith, lt, other))
          ])
        ]
  ]

  -- where a link lacks a sending, its reader gives up an event
  module _ (cut : List ℕ) (link : ℕ) (is : IsCut logs cut) (within : link
      < length logs) (bad : Lacks logs cut link) where
    below : next (length logs) link < length cut
    below = omega (arith, is.places, next_below (length logs) link within)

    -- there is one to give up
    some : 1 ≤ slice_index cut (next (length logs) link)
    some = elim (cases_lt 0 (slice_index cut (next (length logs) link))) [
      | inl more ↦ omega (arith, more)
      | inr none ↦
          let zero_is : slice_index cut (next (length logs) link) ≡ 0 = omega (arith, none) in
          let no : receipts_in logs (next (length logs) link) (slice_index cut (next (length logs) link)) ≡ 0 =
          ap (λ n. receipts_in logs (next (length logs) link) n) zero_is in
          absurd (omega (arith, bad, no))
    ]

    -- a position there that is less stays within, and so does any elsewhere
    pub lowered_within : (i n : ℕ) → n ≤ slice_index cut i → (i ≡ next (length logs) link → n < slice_index cut i)
        → n ≤ slice_index (lowered logs cut link) i
    lowered_within i n le less = elim (cases_eq i (next (length logs) link)) [
      | inl same ↦
          let here : slice_index (lowered logs cut link) (next (length logs) link)
          ≡ slice_index cut (next (length logs) link) - 1 =
          get_or-set_same cut (next (length logs) link) (slice_index cut (next (length logs) link) - 1) 0 below in
          let lt : n < slice_index cut (next (length logs) link) = rw same at (less same) in
          rw (same, here) (omega (arith, lt))
      | inr other ↦
          rw (get_or-set_other cut (next (length logs) link) i (slice_index cut (next (length logs) link) - 1) 0 other)
          le
    ]

    lower_cut : IsCut logs (lowered logs cut link)
    lower_cut = record {
      places = length-set cut (next (length logs) link) (slice_index cut (next (length logs) link) - 1) ∙ is.places;
      within = λ i l. elim (cases_eq i (next (length logs) link)) [
        | inl same ↦ rw (
          same,
          get_or-set_same cut (next (length logs) link)
              (slice_index cut (next (length logs) link) - 1) 0 below,
        )
            (omega (arith, is.within (next (length logs) link) (omega (arith, same, l))))
        | inr other ↦ rw (get_or-set_other cut (next (length logs) link) i
            (slice_index cut (next (length logs) link) - 1) 0 other) (is.within i l)
      ];
    }

    lower_sum : sum_by (λ (n : ℕ). n) (lowered logs cut link) < sum_by (λ (n : ℕ). n) cut
    lower_sum = omega (
      arith,
      sum_by-set (λ (n : ℕ). n) cut (next (length logs) link) (slice_index cut (next (length logs) link) - 1) 0 below,
      some,
    )

  -- what stays true as events are given up is true of a consistent beginning
  module _ (Q : List ℕ → Type 0)
      (stays : (cut : List ℕ) (link : ℕ) → IsCut logs cut → link < length logs → Lacks logs cut link → Q cut
      → Q (lowered logs cut link)) where
    descend : (n : ℕ) (cut : List ℕ) → IsCut logs cut → Q cut → sum_by (λ (n : ℕ). n) cut < n
        → (g : List ℕ) × IsConsistentBeginning logs g × Q g
    descend zero cut is q few = absurd (omega (arith, few))
    descend (suc n) cut is q few = elim (all_or_one cut (length logs) (omega arith)) [
      | inl all ↦ (cut, record { cut_is = is; sendings = all }, q)
      | inr one ↦ descend n (lowered logs cut one.0) (lower_cut cut one.0 is one.1 one.2)
          (stays cut one.0 is one.1 one.2 q)
          (omega (arith, lower_sum cut one.0 is one.1 one.2, few))
    ]

    pub settled : (cut : List ℕ) → IsCut logs cut → Q cut → (g : List ℕ) × IsConsistentBeginning logs g × Q g
    settled cut is q = descend (sum_by (λ (n : ℕ). n) cut + 1) cut is q (omega arith)

  -- all of each log
  abbrev pub whole_cut : List ℕ
  whole_cut = map (λ (log : Log). length log.events) logs

  pub whole_at : (i : ℕ) → i < length logs → slice_index whole_cut i ≡ length (log_of logs i)
  whole_at i l =
      get_or-map (λ (log : Log). length log.events) logs i no_log 0 l
      ∙ sym (ap (λ o. length (events_of o)) (slice_get-get_or logs i no_log l))
    where
      no_log : Log
      no_log = record { version = 0; nodes = 0; place = 0; initiator = false; events = [] }

  pub whole_is_cut : IsCut logs whole_cut
  whole_is_cut = record {
    places = length-map logs (λ (log : Log). length log.events);
    within = λ i l. rw (whole_at i l) (omega arith);
  }

  abbrev Bounds : List ℕ → Type 0
  Bounds cut = (other : List ℕ) → IsConsistentBeginning logs other → (i : ℕ) → i < length logs
      → slice_index other i ≤ slice_index cut i

  bounds_stay : (cut : List ℕ) (link : ℕ) → IsCut logs cut → link < length logs → Lacks logs cut link → Bounds cut
      → Bounds (lowered logs cut link)
  bounds_stay cut link is within bad bounds other consistent i l =
      lowered_within cut link is within bad i (slice_index other i) (bounds other consistent i l) (λ same.
      let sent_less = more_sendings logs link (slice_index other link) (slice_index cut link)
      (bounds other consistent link within) in
      let held = consistent.sendings link within in
      elim (cases_lt (slice_index other i) (slice_index cut i)) [
        | inl lt ↦ lt
        | inr ge ↦
            let ge' : slice_index cut (next (length logs) link) ≤ slice_index other (next (length logs) link) =
            rw same at ge in
            let got_more = more_receipts logs (next (length logs) link) (slice_index cut (next (length logs) link))
            (slice_index other (next (length logs) link)) ge' in
            absurd (omega (arith, got_more, held, sent_less, bad))
      ])

  pub greatest : (g : List ℕ) × IsGreatestBeginning logs g
  greatest =
      let found = settled Bounds bounds_stay whole_cut whole_is_cut (λ other consistent i l.
      rw (whole_at i l) (consistent.cut_is.within i l)) in
      (found.0, record { consistent = found.1; greatest = found.2 })
