-- One more event at the end of the beginning of an order.
use Rattle.std.proofs.Common.{◌≡◌, ◌≢◌, ℕ, zero, suc, ◌+◌, ◌-◌, ◌<◌, ◌≤◌, inl, inr, List, [], ◌∷◌, ◌++◌, length}
use Rattle.std.proofs.Common.{refl, sym, ◌∙◌, ap, arith, get_or, set, take, Option, Some, None, length-append}
use Rattle.std.proofs.Common.{get_or-set_same, get_or-set_other}
use Rattle.ira_event.specs.declared.event.Event.{Event}
use Rattle.ira_event.specs.declared.load.Load.{Load}
use Rattle.ira_event.specs.Log.{Log}
use Rattle.ira_event.specs.declared.event.Event.TheVariants.{Sent, Got, Draw, Yield}
use Rattle.std.specs.List.{filter_map, cons_option}
use Rattle.ira_order.specs.Ring.{log_of, next}
use Rattle.ira_order.specs.Matching.{sent, got, sending}
use Rattle.ira_order.specs.Order.{occurrences}
use Rattle.ira_order.specs.Counts.{IsReady, Covers, IsSchedule}
use Rattle.ira_order.specs.Tally.{sent_by, got_by}
use Rattle.ira_order.proofs.Ranks.{filter_map_more, rank_mono, next_other}
use Rattle.std.specs.Prelude.{slice_get}
use Rattle.std.proofs.lemmas.Option.{get_or_from_slice_get, slice_get_within}
use Rattle.std.proofs.lemmas.List.{take_all, take-append-le, length_push}
use Rattle.std.proofs.lemmas.List.Elements.{All-push}
use Rattle.std.proofs.lemmas.List.Sums.{sum_by_push}
use Rattle.std.proofs.lemmas.Bool.{ne_eqb, eq-eqb, cases_lt, cases_eq}

pub rank_le : (h : Event → Option Load) (es : List Event) (n : ℕ) → length (filter_map h (take n es)) ≤ n
rank_le h es zero = omega arith
rank_le h [] (suc n) = omega arith
rank_le h (e ∷ es) (suc n) = by_case (h e) (filter_map h (take n es)) (rank_le h es n)
  where
    by_case : (o : Option Load) (xs : List Load) → length xs ≤ n → length (cons_option o xs) ≤ suc n
    by_case None xs l = omega arith
    by_case (Some x) xs l = omega arith

-- an event more, counted
pub rank_more : (h : Event → Option Load) (es : List Event) (i : ℕ) (d : Event) → i < length es
    → length (filter_map h (take (i + 1) es))
    ≡ length (filter_map h (take i es)) + length (cons_option (h (get_or es i d)) [])
rank_more h es i d l = ap length (filter_map_more h es i d l)
    ∙ length-append (filter_map h (take i es)) (cons_option (h (get_or es i d)) [])

-- the same of the event that stands there
pub counted_more : (h : Event → Option Load) (es : List Event) (n : ℕ) (e : Event) → slice_get es n ≡ Some e
    → length (filter_map h (take (n + 1) es)) ≡ length (filter_map h (take n es)) + length (cons_option (h e) [])
counted_more h es n e is =
    rank_more h es n e (slice_get_within es n e is)
    ∙ ap (λ (x : Event). length (filter_map h (take n es)) + length (cons_option (h x) []))
    (get_or_from_slice_get es n e e is)

pub occurrences_push_same : (places : List ℕ) (i : ℕ) → occurrences (places ++ i ∷ []) i ≡ occurrences places i + 1
occurrences_push_same places i = sum_by_push _ places i ∙ rw (eq-eqb i i refl)

pub occurrences_push_other : (places : List ℕ) (i j : ℕ) → i ≢ j → occurrences (places ++ i ∷ []) j ≡ occurrences places j
occurrences_push_other places i j ne = sum_by_push _ places i ∙ rw (ne_eqb i j ne) (omega arith)

module _ (logs : List Log) (places : List ℕ) (i : ℕ)
    (two : 2 ≤ length logs)
    (here : i < length logs)
    (so_far : IsSchedule logs places)
    (free : IsReady logs (occurrences places) i) where
  covers_push : Covers logs (occurrences (places ++ i ∷ []))
  covers_push k lk =
      let n : ℕ = length logs in
      let j : ℕ = next (length logs) k in
      elim (cases_eq i (next (length logs) k)) [
        | inl same ↦
            let ne : i ≢ k = λ q. next_other (length logs) k two lk (sym same ∙ q) in
            let c : length (got (take (occurrences places i + 1) (log_of logs i)))
            ≤ length (sent (take (occurrences places k) (log_of logs k))) = free.1 k lk (sym same) in
            let at_i = occurrences_push_same places i in
            let at_k = occurrences_push_other places i k ne in
            rw (← same, at_i, at_k) c
        | inr other ↦
            let at_j = occurrences_push_other places i (next (length logs) k) other in
            let before : length (got (take (occurrences places (next (length logs) k))
            (log_of logs (next (length logs) k)))) ≤ length (sent (take (occurrences places k) (log_of logs k))) =
            let whole : take (length places) places ≡ places = take_all (length places) places (omega arith) in
            rw whole at (so_far.kept (length places) (omega arith) k lk) in
            let up : occurrences places k ≤ occurrences (places ++ i ∷ []) k = elim (cases_eq i k) [
              | inl e ↦ rw (← e) (omega (arith, occurrences_push_same places i))
              | inr ne ↦ omega (arith, occurrences_push_other places i k ne)
            ] in
            rw at_j (omega (
              arith,
              before,
              rank_mono sending (log_of logs k) (occurrences places k) (occurrences (places ++ i ∷ []) k) up,
            ))
      ]

  pub schedule_push : IsSchedule logs (places ++ i ∷ [])
  schedule_push = record {
    places = All-push (λ p. p < length logs) places i so_far.places here;
    within = λ j lj. elim (cases_eq i j) [
      | inl e ↦ rw (← e) (omega (arith, occurrences_push_same places i, free.0))
      | inr ne ↦ omega (arith, occurrences_push_other places i j ne, so_far.within j lj)
    ];
    kept = λ t lt. elim (cases_lt (length places) t) [
      | inl past ↦
          let whole : take t (places ++ i ∷ []) ≡ places ++ i ∷ [] =
          take_all t (places ++ i ∷ []) (omega (arith, length_push places i)) in
          rw whole covers_push
      | inr within ↦ rw (take-append-le t places (i ∷ []) within) (so_far.kept t within)
    ];
  }

-- a list of counters after one of them was raised
pub raised : (xs : List ℕ) (count : ℕ → ℕ) (count' : ℕ → ℕ) (n i by : ℕ) → length xs ≡ n → i < n
    → ((j : ℕ) → j < n → get_or xs j 0 ≡ count j) → count' i ≡ count i + by → ((j : ℕ) → i ≢ j → count' j ≡ count j)
    → (j : ℕ) → j < n → get_or (set xs i (get_or xs i 0 + by)) j 0 ≡ count' j
raised xs count count' n i by long here is same other j lj = elim (cases_eq i j) [
  | inl e ↦
      let fits : i < length xs = omega arith in
      rw (← e, get_or-set_same xs i (get_or xs i 0 + by) 0 fits) (ap (λ (x : ℕ). x + by) (is i here) ∙ sym same)
  | inr ne ↦
      let ne' : j ≢ i = λ q. ne (sym q) in
      rw (get_or-set_other xs i j (get_or xs i 0 + by) 0 ne') (is j lj ∙ sym (other j ne))
]

-- an event that is no sending
pub sends_nothing : (e : Event) → ((m : Load) → e ≡ Sent m → ⊥) → sent_by e ≡ 0
sends_nothing (Draw id) never = refl
sends_nothing Yield never = refl
sends_nothing (Sent m) never = absurd (never m refl)
sends_nothing (Got m) never = refl

-- an event that is no receipt
pub receives_nothing : (e : Event) → ((m : Load) → e ≡ Got m → ⊥) → got_by e ≡ 0
receives_nothing (Draw id) never = refl
receives_nothing Yield never = refl
receives_nothing (Sent m) never = refl
receives_nothing (Got m) never = absurd (never m refl)
