-- Of logs that have an order each case is decided: as long as no node is spent and some elimination is
-- left, it is made, and there are no more of them than candidates.
use Rattle.std.proofs.Common.{◌≡◌, ℕ, zero, suc, ◌+◌, ◌<◌, ◌≤◌, ◌⊎◌, inl, inr, List, [], ◌∷◌, ◌++◌, Option, Some, None}
use Rattle.std.proofs.Common.{get_or, length, slice_get, refl, sym, ◌∙◌, ap, arith, add-one, nat_cmp}
use Rattle.std.proofs.lemmas.List.{ext_get_or, length_push}
use Rattle.std.proofs.lemmas.List.FromFn.{get_or-range_with_len}
use Rattle.std.proofs.lemmas.Option.{slice_get_within}
use Rattle.std.specs.List.{range_with_len}
use Rattle.std.specs.Ordering.{ord_max}
use Rattle.ira_event.specs.Log.{Log}
use Rattle.ira_pred.specs.Case.{Conjunct}
use Rattle.ira_order.specs.Ring.{log_of}
use Rattle.ira_order.specs.Before.{Before}
use Rattle.ira_order.specs.Circle.{HasOrder}
use Rattle.ira_order.specs.Matching.{Matches}
use Rattle.ira_order.specs.Order.{IsOrder}
use Rattle.ira_order.specs.VectorClock.{IsCount}
use Rattle.std.proofs.lemmas.Bool.{cases_eq}
use Rattle.ira_order.proofs.HasCounts.{list_of, count_of, before_decided}
use Rattle.ira_cert_text.specs.declared.cert_step.CertStep.{CertStep}
use Rattle.ira_cert.specs.Conjuncts.{HasDifferentPlaces, HasPlacesOf}
use Rattle.ira_cert.specs.Queues.{AreQueues, HasList}
use Rattle.ira_cert.proofs.QueueHeads.{one_fewer}
use Rattle.ira_elim.specs.Elimination.{IsFirstLeft, IsElimination, IsGreatestCount, AreGreatestCounts}
use Rattle.ira_elim.specs.LeastCut.{IsLeastCut}
use Rattle.ira_elim.specs.Laws.{IsAbsent, IsPresent}
use Rattle.ira_elim.proofs.Greatest.{IsUpper, IsReached, greatest_more, greatest_stays}
use Rattle.ira_elim.proofs.Places.{one_first}
use Rattle.ira_elim.proofs.SomeQueues.{some_queues}
use Rattle.ira_elim.proofs.Steps.{AreMade, none_made, made_more, total, total_less, absent}
use Rattle.ira_elim.proofs.Present.{present}
use Rattle.ira_elim.proofs.Within.{within}

-- what is searched for below a number is there or not
search_below : (P : ℕ → Type 0) (n : ℕ) → ((i : ℕ) → P i ⊎ ¬ (P i)) → ((i : ℕ) × P i) ⊎ ((i : ℕ) → i < n → ¬ (P i))
search_below P zero test = inr (λ i l. absurd (omega arith))
search_below P (suc n) test = elim (test n) [
  | inl here ↦ inl (n, here)
  | inr not_here ↦ elim (search_below P n test) [
    | inl below ↦ inl below
    | inr none ↦ inr (λ i l. elim (cases_eq i n) [
      | inl e ↦ (let h : ¬ (P i) = rw e not_here in h)
      | inr other ↦ none i (omega arith)
    ])
  ]
]

-- a node has a first candidate left, or none
first_or_none : (queues : List (Option (List ℕ))) (i : ℕ) → ((p : ℕ) × IsFirstLeft queues i p)
    ⊎ ((p : ℕ) → ¬ (IsFirstLeft queues i p))
first_or_none queues i = by_entry (slice_get queues i) refl
  where
    by_entry : (o : Option (Option (List ℕ))) → slice_get queues i ≡ o → ((p : ℕ) × IsFirstLeft queues i p)
        ⊎ ((p : ℕ) → ¬ (IsFirstLeft queues i p))
    by_entry None at = inr (λ p h. (let z : None ≡ Some (Some h.0) = sym at ∙ h.1 in cc))
    by_entry (Some None) at = inr (λ p h. (let z : Some None ≡ Some (Some h.0) = sym at ∙ h.1 in cc))
    by_entry (Some (Some [])) at =
        inr (λ p h. (let z : Some (Some []) ≡ Some (Some h.0) = sym at ∙ h.1 in let e : [] ≡ h.0 = cc in
        let none : None ≡ Some p = ap (λ (xs : List ℕ). slice_get xs 0) e ∙ h.2 in cc))
    by_entry (Some (Some (p ∷ left))) at = inl (p, (p ∷ left, at, refl))

first_within : (queues : List (Option (List ℕ))) (i p : ℕ) → IsFirstLeft queues i p → i < length queues
first_within queues i p h = slice_get_within queues i (Some h.0) h.1

-- some node is spent, or each has a first candidate left
spent_or_not : (queues : List (Option (List ℕ))) → ((i : ℕ) × (slice_get queues i ≡ Some (Some [])))
    ⊎ ((i : ℕ) → HasList queues i → (p : ℕ) × IsFirstLeft queues i p)
spent_or_not queues = elim (search_below (λ i. slice_get queues i ≡ Some (Some [])) (length queues) (λ i.
    empty_or_not (slice_get queues i))) [
      | inl some ↦ inl some
      | inr none ↦ inr (λ i has. first_of_list i has.0 has.1 (none i (slice_get_within queues i (Some has.0) has.1)))
    ]
  where
    empty_or_not : (o : Option (Option (List ℕ))) → (o ≡ Some (Some [])) ⊎ ¬ (o ≡ Some (Some []))
    empty_or_not None = inr (λ e. cc)
    empty_or_not (Some None) = inr (λ e. cc)
    empty_or_not (Some (Some [])) = inl refl
    empty_or_not (Some (Some (p ∷ left))) = inr (λ e. cc)

    first_of_list : (i : ℕ) (left : List ℕ) → slice_get queues i ≡ Some (Some left)
        → ¬ (slice_get queues i ≡ Some (Some [])) → (p : ℕ) × IsFirstLeft queues i p
    first_of_list i [] at none = absurd (none at)
    first_of_list i (p ∷ left) at none = (p, (p ∷ left, at, refl))

module _ (logs : List Log) (order : List ℕ) (o : IsOrder logs order) (matches : Matches logs) where
  -- some elimination is left, or none
  module _ (queues : List (Option (List ℕ))) where
    eliminates : (i j : ℕ) → ((s : CertStep) × (s.node ≡ i) × (s.other ≡ j) × IsElimination logs queues s)
        ⊎ ¬ ((s : CertStep) × (s.node ≡ i) × (s.other ≡ j) × IsElimination logs queues s)
    eliminates i j = elim (cases_eq i j) [
      | inl same ↦ inr (λ h. h.3.differ (h.1 ∙ same ∙ sym h.2))
      | inr differ ↦ elim (first_or_none queues i) [
        | inr none ↦ inr (λ h. (let front : IsFirstLeft queues i h.0.pos = rw h.1 at h.3.front in none h.0.pos front))
        | inl p ↦ elim (first_or_none queues j) [
          | inr none ↦ inr (λ h. (let front : IsFirstLeft queues j h.0.other_pos = rw h.2 at h.3.other_front in
              none h.0.other_pos front))
          | inl q ↦ elim (before_decided logs order o matches i (p.0 + 1) j q.0) [
            | inl before ↦ inl (
              record { node = i; pos = p.0; other = j; other_pos = q.0 },
              refl,
              refl,
              record { differ = differ; front = p.1; other_front = q.1; happened_before = before },
            )
            | inr not ↦ inr (λ h.
                let front : IsFirstLeft queues i h.0.pos = rw h.1 at h.3.front in
                let other_front : IsFirstLeft queues j h.0.other_pos = rw h.2 at h.3.other_front in
                let at_p : h.0.pos ≡ p.0 = one_first queues i i h.0.pos p.0 refl front p.1 in
                let at_q : h.0.other_pos ≡ q.0 = one_first queues j j h.0.other_pos q.0 refl other_front q.1 in
                let before : Before logs i (p.0 + 1) j q.0 = rw (h.1, h.2, at_p, at_q) at h.3.happened_before in
                not before)
          ]
        ]
      ]
    ]

    eliminated_by : (i : ℕ) → ((j : ℕ) × (s : CertStep) × (s.node ≡ i) × (s.other ≡ j) × IsElimination logs queues s)
        ⊎ ((s : CertStep) → s.node ≡ i → ¬ (IsElimination logs queues s))
    eliminated_by i = elim (search_below (λ j. (s : CertStep) × (s.node ≡ i) × (s.other ≡ j)
        × IsElimination logs queues s) (length queues) (eliminates i)) [
          | inl found ↦ inl (found.0, found.1.0, found.1.1, found.1.2, found.1.3)
          | inr none ↦ inr (λ s at is. none s.other (first_within queues s.other s.other_pos is.other_front) (
            s,
            at,
            refl,
            is,
          ))
        ]

    elimination_or_not : ((s : CertStep) × IsElimination logs queues s)
        ⊎ ((s : CertStep) → IsElimination logs queues s → ⊥)
    elimination_or_not = elim (search_below (λ i. (s : CertStep) × (s.node ≡ i)
        × IsElimination logs queues s) (length queues) (λ i. elim (eliminated_by i) [
          | inl found ↦ inl (found.1, found.2, found.4)
          | inr none ↦ inr (λ h. none h.0 h.1 h.2)
        ])) [
          | inl found ↦ inl (found.1.0, found.1.2)
          | inr none ↦ inr (λ s is. none s.node (first_within queues s.node s.pos is.front) (s, refl, is))
        ]

    -- the greatest counts at the first candidates left
    module _ (inside : (j q : ℕ) → IsFirstLeft queues j q → (j < length logs) × (q ≤ length (log_of logs j))) where
      places : List ℕ
      places = range_with_len 0 (length queues)

      place_is : (j : ℕ) → j < length queues → get_or places j 0 ≡ j
      unfolding places
      place_is j l = get_or-range_with_len 0 (length queues) j 0 l ∙ omega arith

      -- of node i, at those of the first k places
      greatest_below : (i : ℕ) → i < length logs → (k : ℕ) → (c : ℕ) × IsUpper logs queues places i k c
          × IsReached logs queues places i c
      greatest_below i li zero = (0, λ j l. absurd (omega arith), inl refl)
      greatest_below i li (suc k) =
          let before = greatest_below i li k in
          rw (← add-one k) (elim (first_or_none queues (get_or places k 0)) [
            | inr none ↦ (let same = greatest_stays logs queues places i k before.0 before.0 none refl before.1 before.2
                in (before.0, same.0, same.1))
            | inl p ↦
                let w = inside (get_or places k 0) p.0 p.1 in
                let n = count_of logs order o matches (get_or places k 0) p.0 i w.0 w.1 li in
                let more = greatest_more logs queues places i k before.0 p.0 n.0 (ord_max nat_cmp before.0 n.0) order o
                p.1 n.1 refl before.1 before.2 in
                (ord_max nat_cmp before.0 n.0, more.0, more.1)
          ])

      greatest_counts : (cut : List ℕ) × AreGreatestCounts logs queues cut
      greatest_counts =
          let cut = list_of (λ i c. IsGreatestCount logs queues i c) (length logs) (λ i li.
          let g = greatest_below i li (length queues) in
          (g.0, record { upper = λ j q first. at_place i g.0 g.1 j q first; reached = g.2 })) in
          (cut.0, record { places = cut.1; counts = cut.2 })
        where
          at_place : (i c : ℕ) → IsUpper logs queues places i (length queues) c → (j q : ℕ) → IsFirstLeft queues j q
              → (n : ℕ) × IsCount logs j q i n × (n ≤ c)
          at_place i c upper j q first =
              let l : j < length queues = first_within queues j q first in
              let e : get_or places j 0 ≡ j = place_is j l in
              let first' : IsFirstLeft queues (get_or places j 0) q = rw e first in
              rw e at (upper j l q first')

  -- eliminations are made as long as there are any
  module _ (case : List Conjunct) (differ : HasDifferentPlaces case) (first : List (Option (List ℕ)))
      (first_are : AreQueues logs case first) where
    -- n is above the number of candidates left
    eliminated : (n : ℕ) (steps : List CertStep) (queues : List (Option (List ℕ))) → AreMade logs case steps queues
        → length steps + total queues ≡ total first → total queues < n → IsAbsent logs case ⊎ IsPresent logs case
    eliminated zero steps queues made count l = absurd (omega arith)
    eliminated (suc n) steps queues made count l = elim (spent_or_not queues) [
      | inl spent ↦ inl (
        record { steps = steps; spent = spent.0 },
        absent logs case first queues steps spent.0 first_are made count spent.1,
      )
      | inr left ↦ elim (elimination_or_not queues) [
        | inl s ↦
            let fewer : total queues ≡ total (one_fewer queues s.0.node) + 1 =
            total_less queues s.0.node s.0.pos s.1.front in
            eliminated n (steps ++ s.0 ∷ []) (one_fewer queues s.0.node)
            (made_more logs case steps (steps ++ s.0 ∷ []) queues (one_fewer queues s.0.node) s.0 differ made s.1
            refl refl)
            (omega (arith, length_push steps s.0, fewer)) (omega (arith, fewer))
        | inr none ↦
            let cut = greatest_counts queues (within logs case steps queues made.queues_after) in
            inr (cut.0, present logs case steps queues differ made cut.0 cut.1 none left)
      ]
    ]

pub case_decided : (logs : List Log) (case : List Conjunct) → HasOrder logs → HasDifferentPlaces case
    → HasPlacesOf logs case → IsAbsent logs case ⊎ IsPresent logs case
case_decided logs case has differ places =
    let first = some_queues logs case places in
    eliminated logs has.1 has.2 has.0 case differ first.0 first.1 (suc (total first.0)) [] first.0
    (none_made logs case [] first.0 first.1 refl) (omega arith) (omega arith)

-- two least cuts lie at or below one another
pub one_least : (logs : List Log) (case : List Conjunct) (a b : List ℕ) → IsLeastCut logs case a
    → IsLeastCut logs case b → a ≡ b
one_least logs case a b least_a least_b =
    let long_a : length a ≡ length logs = least_a.consistent.0.places in
    ext_get_or 0 a b (omega (arith, least_b.consistent.0.places))
    (λ i l. omega (
      arith,
      least_a.least b least_b.consistent least_b.meets i (omega arith),
      least_b.least a least_a.consistent least_a.meets i (omega arith),
    ))
