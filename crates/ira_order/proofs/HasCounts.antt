-- In logs that have an order each event has its counts, so that happened-before is decided.
use Rattle.std.proofs.Common.{◌≡◌, ◌≢◌, ℕ, zero, suc, ◌<◌, ◌≤◌, ◌⊎◌, inl, inr, List, [], ◌∷◌, ◌++◌, length, refl, sym}
use Rattle.std.proofs.Common.{◌∙◌, arith, get_or, Some}
use Rattle.std.specs.Prelude.{slice_get, slice_index}
use Rattle.ira_event.specs.declared.event.Event.{Event}
use Rattle.ira_event.specs.declared.load.Load.{Load}
use Rattle.ira_event.specs.declared.event.Event.TheVariants.{Draw, Sent, Got, Yield}
use Rattle.ira_event.specs.Log.{Log}
use Rattle.ira_order.specs.Ring.{log_of, next, prev, numbered}
use Rattle.ira_order.specs.Matching.{Matches}
use Rattle.ira_order.specs.Order.{IsOrder, StandsAt}
use Rattle.ira_order.specs.Before.{Before, own, message}
use Rattle.ira_order.specs.VectorClock.{IsCount, AreCounts}
use Rattle.std.proofs.lemmas.Bool.{cases_lt, cases_eq}
use Rattle.ira_order.proofs.Runs.{prev_below, next_prev}
use Rattle.ira_order.proofs.Acyclic.{place_of, before_stands, before_within, before_own}
use Rattle.ira_order.proofs.Bridge.{before_places}
use Rattle.ira_order.proofs.Counting.{count_first, count_own, count_stays, count_taken, sending_before}
use Rattle.std.proofs.lemmas.List.{get_or_append_left, get_or_push, length_push}
use Rattle.std.proofs.lemmas.Option.{slice_get-get_or}

-- one number for each place, as a list
pub list_of : (P : ℕ → ℕ → Type 0) (n : ℕ) → ((i : ℕ) → i < n → (m : ℕ) × P i m) → (ms : List ℕ) × (length ms ≡ n)
    × ((i : ℕ) → i < n → P i (slice_index ms i))
list_of P zero each = ([], refl, λ i l. absurd (omega arith))
list_of P (suc n) each =
    let ms = list_of P n (λ i l. each i (omega arith)) in
    let last = each n (omega arith) in (
      ms.0 ++ last.0 ∷ [],
      omega (arith, length_push ms.0 last.0, ms.1),
      λ i l. elim (cases_eq i n) [
        | inl e ↦ (let here : slice_index (ms.0 ++ last.0 ∷ []) n ≡ last.0 = get_or_push ms.0 last.0 0 n ms.1 in
            rw (e, here) last.1)
        | inr ne ↦ (let there : slice_index (ms.0 ++ last.0 ∷ []) i
            ≡ slice_index ms.0 i = get_or_append_left ms.0 (last.0 ∷ []) 0 i (omega (arith, ms.1)) in
            rw there (ms.2 i (omega arith)))
      ],
    )

module _ (logs : List Log) (order : List ℕ) (o : IsOrder logs order) (matches : Matches logs) where
  -- what stands in the order before place t counts events of node i
  abbrev Counted : ℕ → ℕ → Type 0
  Counted t i = (s k a : ℕ) → s < t → StandsAt order s k a → k < length logs → a ≤ length (log_of logs k) → (m : ℕ)
      × IsCount logs k a i m

  -- then so does a receipt at place t
  receipt_counts : (k b t i : ℕ) (m : Load) → k < length logs
      → slice_get (log_of logs (next (length logs) k)) b ≡ Some (Got m) → i ≢ next (length logs) k
      → StandsAt order t (next (length logs) k) (suc b) → Counted t i → (m : ℕ)
      × IsCount logs (next (length logs) k) (suc b) i m
  receipt_counts k b t i m lk is other stands earlier =
      let p = sending_before logs matches k b m lk is in
      let w = before_within logs k p.0 (next (length logs) k) (suc b) (message refl p.1) in
      let s = place_of logs order o k p.0 lk w.0 w.1 in
      let c = earlier s.0 k p.0 (o.after k p.0 (suc b) s.0 t p.1 s.1 stands) s.1 lk w.1 in
      (c.0, count_taken logs order o k p.0 (suc b) i c.0 other p.1 c.1)

  -- and so does each event b + 1 of another node j, which stands at place t
  module _ (t j b i : ℕ) (stands : StandsAt order t j (suc b)) (lj : j < length logs) (l : suc b
      ≤ length (log_of logs j)) (other : i ≢ j) (earlier : Counted t i) where
    quiet : ((m : Load) → numbered (log_of logs j) (suc b) ≡ Some (Got m) → ⊥) → (m : ℕ) × IsCount logs j (suc b) i m
    quiet never = elim (cases_eq b 0) [
      | inl none ↦ (0, count_stays logs order o j b i 0 lj other l never (rw none (count_first logs j i)))
      | inr some ↦
          let s = place_of logs order o j b lj (omega arith) (omega arith) in
          let sooner : s.0 < t = before_stands logs order o j b j (suc b) (own refl lj (omega arith) (omega arith) l)
          s.0 t s.1 stands in
          let m = earlier s.0 j b sooner s.1 lj (omega arith) in
          (m.0, count_stays logs order o j b i m.0 lj other l never m.1)
    ]

    taken : (m : Load) → slice_get (log_of logs j) b ≡ Some (Got m) → (m : ℕ) × IsCount logs j (suc b) i m
    taken m is =
        let link : next (length logs) (prev (length logs) j) ≡ j = next_prev (length logs) j lj in
        rw link at (receipt_counts (prev (length logs) j) b t i m (prev_below (length logs) j lj) (rw link is)
        (rw link other) (rw link stands) earlier)

    by_event : (e : Event) → slice_get (log_of logs j) b ≡ Some e → (m : ℕ) × IsCount logs j (suc b) i m
    by_event (Got m) is = taken m is
    by_event (Sent m) is = quiet (λ n q. (let z : Some (Sent m) ≡ Some (Got n) = sym is ∙ q in cc))
    by_event (Draw m) is = quiet (λ n q. (let z : Some (Draw m) ≡ Some (Got n) = sym is ∙ q in cc))
    by_event Yield is = quiet (λ n q. (let z : Some Yield ≡ Some (Got n) = sym is ∙ q in cc))

  by_place : (t i : ℕ) → i < length logs → Counted t i
  by_place zero i li s k a lt stands lk l = absurd (omega arith)
  by_place (suc t) i li s k zero lt stands lk l = (0, count_first logs k i)
  by_place (suc t) i li s k (suc a) lt stands lk l =
      let earlier = λ (r j b : ℕ) (le : r < s). by_place t i li r j b (omega arith) in
      elim (cases_eq i k) [
        | inl e ↦ rw e (suc a, count_own logs order o k (suc a) lk l)
        | inr other ↦ by_event s k a i stands lk l other earlier (get_or (log_of logs k) a (Draw 0))
            (slice_get-get_or (log_of logs k) a (Draw 0) (omega arith))
      ]

  -- how many events of node i an event counts
  pub count_of : (j b i : ℕ) → j < length logs → b ≤ length (log_of logs j) → i < length logs → (m : ℕ)
      × IsCount logs j b i m
  count_of j zero i lj l li = (0, count_first logs j i)
  count_of j (suc b) i lj l li =
      let s = place_of logs order o j (suc b) lj (omega arith) l in
      by_place (suc s.0) i li s.0 j (suc b) (omega arith) s.1 lj l

  pub counts_of : (j b : ℕ) → j < length logs → b ≤ length (log_of logs j) → (counts : List ℕ)
      × AreCounts logs j b counts
  counts_of j b lj l =
      let ms = list_of (λ i m. IsCount logs j b i m) (length logs) (λ i li. count_of j b i lj l li) in
      (ms.0, record { places = ms.1; each = ms.2 })

  -- whether one event happened before another is decided
  pub before_decided : (i a j b : ℕ) → Before logs i a j b ⊎ ¬ (Before logs i a j b)
  before_decided i a j b = elim (cases_lt i (length logs)) [
    | inr none ↦ inr (λ h. (let p = before_places logs i a j b h in omega (arith, p)))
    | inl li ↦ elim (cases_lt j (length logs)) [
      | inr none ↦ inr (λ h. (let p = before_places logs i a j b h in omega (arith, p)))
      | inl lj ↦ elim (cases_lt (length (log_of logs j)) b) [
        | inl none ↦ inr (λ h. (let w = before_within logs i a j b h in omega (arith, w)))
        | inr l ↦ elim (cases_eq a 0) [
          | inl none ↦ inr (λ h. (let w = before_within logs i a j b h in omega (arith, w)))
          | inr some ↦ counted i a j b (omega arith) (count_of j b i lj l li)
        ]
      ]
    ]
  ]
    where
      counted : (i a j b : ℕ) → 1 ≤ a → (m : ℕ) × IsCount logs j b i m → Before logs i a j b ⊎ ¬ (Before logs i a j b)
      counted i a j b one m = elim (cases_lt m.0 a) [
        | inl past ↦ inr (λ h. absurd (omega (arith, (m.1.events a one).1 (inr h))))
        | inr held ↦ elim ((m.1.events a one).0 held) [
          | inl e ↦ inr (λ h. (let h' : Before logs j a j b = rw e.0 at h in
              omega (arith, e.1, before_own logs order o j a b h')))
          | inr h ↦ inl h
        ]
      ]
