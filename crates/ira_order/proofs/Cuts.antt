-- A cut that covers itself, of logs that have an order, is a moment of an order.
use Rattle.std.proofs.Common.{◌≡◌, ◌≢◌, ℕ, zero, suc, ◌+◌, ◌-◌, ◌<◌, ◌≤◌, ◌⊎◌, inl, inr, List, [], ◌∷◌, ◌++◌, length}
use Rattle.std.proofs.Common.{refl, sym, ◌∙◌, ap, arith, take, min, length-append, cond, ◌==◌}
use Rattle.std.specs.Prelude.{All, slice_index}
use Rattle.ira_event.specs.Log.{Log}
use Rattle.ira_order.specs.Ring.{log_of, next}
use Rattle.ira_order.specs.Matching.{sending, receipt, Matches}
use Rattle.ira_order.specs.Order.{occurrences, IsOrder}
use Rattle.ira_order.specs.Counts.{IsKept, Covers, IsWholeSchedule}
use Rattle.ira_order.specs.Cut.{HoldsAllBefore, IsCut, IsConsistentCut}
use Rattle.ira_order.proofs.Ranks.{rank_mono, next_below, occurrences-take-le}
use Rattle.ira_order.proofs.Bridge.{consistent_covers, covers_consistent, order_schedule, order_kept, kept_order}
use Rattle.ira_order.proofs.Bridge.{before_places}
use Rattle.std.proofs.lemmas.List.{take-append-le, take_at}
use Rattle.std.proofs.lemmas.List.Elements.{All-cons, All-head, All-tail, All-append}
use Rattle.std.proofs.lemmas.List.Sums.{sum_by-cons, sum_by-append}
use Rattle.std.proofs.lemmas.Bool.{ne_eqb, eq-eqb, cases_lt, cases_eq}

pub cons_same : (i j : ℕ) (s : List ℕ) → i ≡ j → occurrences (i ∷ s) j ≡ 1 + occurrences s j
cons_same i j s e = sum_by-cons _ i s ∙ rw (eq-eqb i j e) refl

pub cons_other : (i j : ℕ) (s : List ℕ) → i ≢ j → occurrences (i ∷ s) j ≡ occurrences s j
cons_other i j s e = sum_by-cons _ i s ∙ rw (ne_eqb i j e) (omega arith)

pub occurrences-append : (a b : List ℕ) (i : ℕ) → occurrences (a ++ b) i ≡ occurrences a i + occurrences b i
occurrences-append a b i = sum_by-append _ a b

-- one fewer of place i
unfoldable pub less : (ℕ → ℕ) → ℕ → ℕ → ℕ
less c i j = cond (i == j) (c j - 1) (c j)

less_same : (c : ℕ → ℕ) (i j : ℕ) → i ≡ j → less c i j ≡ c j - 1
unfolding less
less_same c i j e = rw (eq-eqb i j e) refl

less_other : (c : ℕ → ℕ) (i j : ℕ) → i ≢ j → less c i j ≡ c j
unfolding less
less_other c i j e = rw (ne_eqb i j e) refl

abbrev pub pick : ℕ → List ℕ → List ℕ → List ℕ
pick zero a b = b
pick (suc n) a b = a

-- the places of an order that a cut holds, and the others, each in their order
abbrev pub inside : (ℕ → ℕ) → List ℕ → List ℕ
inside c [] = []
inside c (i ∷ s) = pick (c i) (i ∷ inside (less c i) s) (inside c s)

abbrev pub outside : (ℕ → ℕ) → List ℕ → List ℕ
outside c [] = []
outside c (i ∷ s) = pick (c i) (outside (less c i) s) (i ∷ outside c s)

zero_cases : (n : ℕ) → (n ≡ 0) ⊎ ((m : ℕ) × (n ≡ suc m))
zero_cases zero = inl refl
zero_cases (suc m) = inr (m, refl)

pub inside_count : (c : ℕ → ℕ) (s : List ℕ) (j : ℕ) → occurrences (inside c s) j ≡ min (c j) (occurrences s j)
inside_count c [] j = omega arith
inside_count c (i ∷ s) j = elim (zero_cases (c i)) [
  | inl none ↦ rw none (elim (cases_eq i j) [
    | inl e ↦ (let z : c j ≡ 0 = sym (ap c e) ∙ none in omega (arith, inside_count c s j, cons_same i j s e, z))
    | inr ne ↦ omega (arith, inside_count c s j, cons_other i j s ne)
  ])
  | inr some ↦ rw some.1 (elim (cases_eq i j) [
    | inl e ↦ (let z : c j ≡ suc some.0 = sym (ap c e) ∙ some.1 in
        omega (
          arith,
          inside_count (less c i) s j,
          cons_same i j s e,
          cons_same i j (inside (less c i) s) e,
          less_same c i j e,
          z,
        ))
    | inr ne ↦ omega (
      arith,
      inside_count (less c i) s j,
      cons_other i j s ne,
      cons_other i j (inside (less c i) s) ne,
      less_other c i j ne,
    )
  ])
]

pub outside_count : (c : ℕ → ℕ) (s : List ℕ) (j : ℕ) → occurrences (outside c s) j ≡ occurrences s j - c j
outside_count c [] j = omega arith
outside_count c (i ∷ s) j = elim (zero_cases (c i)) [
  | inl none ↦ rw none (elim (cases_eq i j) [
    | inl e ↦ (let z : c j ≡ 0 = sym (ap c e) ∙ none in
        omega (arith, outside_count c s j, cons_same i j s e, cons_same i j (outside c s) e, z))
    | inr ne ↦ omega (arith, outside_count c s j, cons_other i j s ne, cons_other i j (outside c s) ne)
  ])
  | inr some ↦ rw some.1 (elim (cases_eq i j) [
    | inl e ↦ (let z : c j ≡ suc some.0 = sym (ap c e) ∙ some.1 in
        omega (arith, outside_count (less c i) s j, cons_same i j s e, less_same c i j e, z))
    | inr ne ↦ omega (arith, outside_count (less c i) s j, cons_other i j s ne, less_other c i j ne)
  ])
]

inside_yes : (c : ℕ → ℕ) (i : ℕ) (s : List ℕ) (t m u : ℕ) → c i ≡ suc m
    → take t (inside (less c i) s) ≡ inside (less c i) (take u s)
    → take (suc t) (inside c (i ∷ s)) ≡ inside c (take (suc u) (i ∷ s))
inside_yes c i s t m u e r = rw e (ap (λ (x : List ℕ). i ∷ x) r)

outside_yes : (c : ℕ → ℕ) (i : ℕ) (s : List ℕ) (t u : ℕ) → c i ≡ 0 → take t (outside c s) ≡ outside c (take u s)
    → take (suc t) (outside c (i ∷ s)) ≡ outside c (take (suc u) (i ∷ s))
outside_yes c i s t u e r = rw e (ap (λ (x : List ℕ). i ∷ x) r)

-- a beginning of what is inside is what is inside a beginning
inside_take : (c : ℕ → ℕ) (s : List ℕ) (t : ℕ) → t ≤ length (inside c s) → (u : ℕ) × (u ≤ length s)
    × (take t (inside c s) ≡ inside c (take u s))
inside_take c s zero h = (0, (omega arith), refl)
inside_take c [] (suc t) h = absurd (omega arith)
inside_take c (i ∷ s) (suc t) h = elim (zero_cases (c i)) [
  | inl e ↦ (let h' = rw e at h in let r = inside_take c s (suc t) h' in (suc r.0, (omega (arith, r.1)), rw e r.2))
  | inr e ↦ (let h' = rw e.1 at h in let r = inside_take (less c i) s t (omega (arith, h')) in
      (suc r.0, (omega (arith, r.1)), inside_yes c i s t e.0 r.0 e.1 r.2))
]

outside_take : (c : ℕ → ℕ) (s : List ℕ) (t : ℕ) → t ≤ length (outside c s) → (u : ℕ) × (u ≤ length s)
    × (take t (outside c s) ≡ outside c (take u s))
outside_take c s zero h = (0, (omega arith), refl)
outside_take c [] (suc t) h = absurd (omega arith)
outside_take c (i ∷ s) (suc t) h = elim (zero_cases (c i)) [
  | inl e ↦ (let h' = rw e at h in let r = outside_take c s t (omega (arith, h')) in
      (suc r.0, (omega (arith, r.1)), outside_yes c i s t r.0 e r.2))
  | inr e ↦ (let h' = rw e.1 at h in let r = outside_take (less c i) s (suc t) h' in
      (suc r.0, (omega (arith, r.1)), rw e.1 r.2))
]

take_over : (a b : List ℕ) (t : ℕ) → length a ≤ t → take t (a ++ b) ≡ a ++ take (t - length a) b
take_over [] b t h = ap (λ (x : ℕ). take x b) (omega arith)
take_over (x ∷ a) b zero h = absurd (omega arith)
take_over (x ∷ a) b (suc t) h =
    let less_by : suc t - suc (length a) ≡ t - length a = omega arith in
    ap (λ (y : List ℕ). x ∷ y) (take_over a b t (omega arith)) ∙ ap (λ (n : ℕ). x ∷ (a ++ take n b)) (sym less_by)

-- between two cuts that cover themselves
covers_between : (logs : List Log) (c d e : ℕ → ℕ) → Covers logs c → Covers logs d
    → ((i : ℕ) → i < length logs → ((e (next (length logs) i) ≤ c (next (length logs) i)) × (c i ≤ e i))
    ⊎ ((e (next (length logs) i) ≤ d (next (length logs) i)) × (d i ≤ e i))) → Covers logs e
covers_between logs c d e hc hd which i l = elim (which i l) [
  | inl w ↦ omega (
    arith,
    hc i l,
    rank_mono receipt (log_of logs (next (length logs) i)) (e (next (length logs) i)) (c (next (length logs) i)) w.0,
    rank_mono sending (log_of logs i) (c i) (e i) w.1,
  )
  | inr w ↦ omega (
    arith,
    hd i l,
    rank_mono receipt (log_of logs (next (length logs) i)) (e (next (length logs) i)) (d (next (length logs) i)) w.0,
    rank_mono sending (log_of logs i) (d i) (e i) w.1,
  )
]

inside_all : (n : ℕ) (c : ℕ → ℕ) (s : List ℕ) → All (λ p. p < n) s → All (λ p. p < n) (inside c s)
inside_all n c [] h = h
inside_all n c (i ∷ s) h = elim (zero_cases (c i)) [
  | inl e ↦ rw e (inside_all n c s (All-tail (λ p. p < n) i s h))
  | inr e ↦ rw e.1 (All-cons (λ p. p < n) i (inside (less c i) s) (All-head (λ p. p < n) i s h)
      (inside_all n (less c i) s (All-tail (λ p. p < n) i s h)))
]

outside_all : (n : ℕ) (c : ℕ → ℕ) (s : List ℕ) → All (λ p. p < n) s → All (λ p. p < n) (outside c s)
outside_all n c [] h = h
outside_all n c (i ∷ s) h = elim (zero_cases (c i)) [
  | inl e ↦ rw e (All-cons (λ p. p < n) i (outside c s) (All-head (λ p. p < n) i s h)
      (outside_all n c s (All-tail (λ p. p < n) i s h)))
  | inr e ↦ rw e.1 (outside_all n (less c i) s (All-tail (λ p. p < n) i s h))
]

-- each beginning of the rearranged order is kept
moved_kept : (logs : List Log) (c : ℕ → ℕ) (s : List ℕ) → IsKept logs s → Covers logs c
    → ((i : ℕ) → i < length logs → c i ≤ occurrences s i) → IsKept logs (inside c s ++ outside c s)
moved_kept logs c s kept covers within t lt = elim (cases_lt (length (inside c s)) t) [
  | inr early ↦
      let u = inside_take c s t early in
      rw (take-append-le t (inside c s) (outside c s) early, u.2)
      (covers_between logs c (occurrences (take u.0 s)) (occurrences (inside c (take u.0 s))) covers (kept u.0 u.1)
      (λ i l.
      let lj : next (length logs) i < length logs = next_below (length logs) i l in
      let a = inside_count c (take u.0 s) i in
      let b = inside_count c (take u.0 s) (next (length logs) i) in
      elim (cases_lt (c i) (occurrences (take u.0 s) i)) [
        | inl x ↦ inl (omega (arith, b), omega (arith, a))
        | inr x ↦ inr (omega (arith, b), omega (arith, a))
      ]))
  | inl late ↦
      let v : ℕ = t - length (inside c s) in
      let total = length-append (inside c s) (outside c s) in
      let u = outside_take c s (t - length (inside c s)) (omega (arith, total)) in
      let parts : take t (inside c s ++ outside c s) ≡ inside c s ++ outside c (take u.0 s) =
      take_over (inside c s) (outside c s) t (omega arith) ∙ ap (λ (x : List ℕ). inside c s ++ x) u.2 in
      rw parts
      (covers_between logs c (occurrences (take u.0 s)) (occurrences (inside c s ++ outside c (take u.0 s))) covers
      (kept u.0 u.1)
      (λ i l.
      let lj : next (length logs) i < length logs = next_below (length logs) i l in
      let j : ℕ = next (length logs) i in
      let a : occurrences (inside c s ++ outside c (take u.0 s)) i
      ≡ min (c i) (occurrences s i) + (occurrences (take u.0 s) i - c i) =
      occurrences-append (inside c s) (outside c (take u.0 s)) i
      ∙ omega (arith, inside_count c s i, outside_count c (take u.0 s) i) in
      let b : occurrences (inside c s ++ outside c (take u.0 s)) (next (length logs) i)
      ≡ min (c (next (length logs) i)) (occurrences s (next (length logs) i)) +
      (occurrences (take u.0 s) (next (length logs) i) - c (next (length logs) i)) =
      occurrences-append (inside c s) (outside c (take u.0 s)) (next (length logs) i)
      ∙ omega (
        arith,
        inside_count c s (next (length logs) i),
        outside_count c (take u.0 s) (next (length logs) i),
      ) in
      let wi = within i l in
      let wj = within (next (length logs) i) lj in
      elim (cases_lt (c (next (length logs) i)) (occurrences (take u.0 s) (next (length logs) i))) [
        | inl x ↦ inr (omega (arith, b), omega (arith, a))
        | inr x ↦ inl (omega (arith, b), omega (arith, a))
      ]))
]

-- a consistent cut of logs that have an order is the counts of a beginning of an order
pub cut_moment : (logs : List Log) (s cut : List ℕ) → 2 ≤ length logs → Matches logs → IsOrder logs s → IsCut logs cut
    → HoldsAllBefore logs (slice_index cut) → (o : List ℕ) × (t : ℕ) × IsOrder logs o × (t ≤ length o)
    × ((i : ℕ) → i < length logs → occurrences (take t o) i ≡ slice_index cut i)
cut_moment logs s cut two matches order is consistent =
    let c : ℕ → ℕ = slice_index cut in
    let w : IsWholeSchedule logs s = order_schedule logs s two matches order in
    let covers : Covers logs c = consistent_covers logs c matches is.within consistent in
    let within : (i : ℕ) → i < length logs → c i ≤ occurrences s i =
    λ i l. omega (arith, is.within i l, order.whole i l) in
    let all_counts : (i : ℕ) → i < length logs → occurrences (inside c s ++ outside c s) i ≡ occurrences s i =
    λ i l. occurrences-append (inside c s) (outside c s) i
    ∙ omega (arith, inside_count c s i, outside_count c s i, within i l) in (
      inside c s ++ outside c s,
      length (inside c s),
      kept_order logs (inside c s ++ outside c s) two record {
        matches = matches;
        schedule = record {
          places = All-append (λ p. p < length logs) (inside c s) (outside c s)
              (inside_all (length logs) c s order.places) (outside_all (length logs) c s order.places);
          within = λ i l. omega (arith, all_counts i l, order.whole i l);
          kept = moved_kept logs c s w.schedule.kept covers within;
        };
        whole = λ i l. all_counts i l ∙ order.whole i l;
      },
      omega (arith, length-append (inside c s) (outside c s)),
      λ i l. ap (λ (x : List ℕ). occurrences x i) (take_at (inside c s) (outside c s) (length (inside c s)) refl)
          ∙ inside_count c s i ∙ omega (arith, within i l),
    )

-- the numbers of the places in a beginning of an order are a consistent cut
pub moment_cut : (logs : List Log) (order cut : List ℕ) (t : ℕ) → 2 ≤ length logs → Matches logs → IsOrder logs order
    → t ≤ length order → length cut ≡ length logs
    → ((i : ℕ) → i < length logs → slice_index cut i ≡ occurrences (take t order) i) → IsConsistentCut logs cut
moment_cut logs order cut t two matches o lt long are = (
  record { places = long; within = λ i l. omega (arith, are i l, occurrences-take-le order t i, o.whole i l) },
  λ i a j b before held.
      let p = before_places logs i a j b before in
      let h : b ≤ occurrences (take t order) j = omega (arith, held, are j p.1) in
      omega (
        arith,
        are i p.0,
        covers_consistent logs (occurrences (take t order))
            (order_kept logs order two matches o t lt) i a j b before h,
      ),
)
