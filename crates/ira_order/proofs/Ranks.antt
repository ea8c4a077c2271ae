-- How many receipts or sendings a beginning of a log has, and how often a beginning of an order names a place.
use Rattle.std.proofs.Common.{◌≡◌, ◌≢◌, ℕ, zero, suc, ◌+◌, ◌<◌, ◌≤◌, List, [], ◌∷◌, ◌++◌, length, sym, ◌∙◌, ap, arith}
use Rattle.std.proofs.Common.{drop, inl, inr, Option, Some, None, get_or, take, ◌==◌}
use Rattle.ira_order.specs.Ring.{next}
use Rattle.ira_order.specs.Order.{occurrences}
use Rattle.ira_event.specs.declared.event.Event.{Event}
use Rattle.ira_event.specs.declared.load.Load.{Load}
use Rattle.std.specs.List.{filter_map, cons_option}
use Rattle.std.proofs.lemmas.Bool.{cases_lt, ne_eqb}
use Rattle.std.proofs.lemmas.Bool.Decides.{nat_tests}
use Rattle.std.proofs.lemmas.List.{take-take, take_all, take_more, drop_more, take-append-drop}
use Rattle.std.proofs.lemmas.List.Elements.{filter_map-append}
use Rattle.std.proofs.lemmas.List.Sums.{sum_by-take-le, count_by_more_yes, count_by_more_no}

-- what one more event adds
pub filter_map_more : (h : Event → Option Load) (es : List Event) (i : ℕ) (d : Event) → i < length es
    → filter_map h (take (i + 1) es) ≡ filter_map h (take i es) ++ cons_option (h (get_or es i d)) []
filter_map_more h es i d l = rw (take_more es i d l) (filter_map-append h (take i es) (get_or es i d ∷ []))

-- the messages before, of and after an event
pub filter_map_split : (h : Event → Option Load) (es : List Event) (i : ℕ) (d : Event) → i < length es
    → filter_map h es ≡ filter_map h (take i es) ++ cons_option (h (get_or es i d)) (filter_map h (drop (i + 1) es))
filter_map_split h es i d l =
    ap (filter_map h) (sym (take-append-drop i es))
    ∙ filter_map-append h (take i es) (drop i es)
    ∙ ap (λ (r : List Event). filter_map h (take i es) ++ filter_map h r) (drop_more es i d l)

-- a longer beginning has no fewer
pub rank_mono : (h : Event → Option Load) (es : List Event) (m n : ℕ) → m ≤ n
    → length (filter_map h (take m es)) ≤ length (filter_map h (take n es))
rank_mono h es zero n l = omega arith
rank_mono h [] (suc m) zero l = absurd (omega arith)
rank_mono h [] (suc m) (suc n) l = omega arith
rank_mono h (e ∷ es) (suc m) zero l = absurd (omega arith)
rank_mono h (e ∷ es) (suc m) (suc n) l = longer (h e) _ _ (rank_mono h es m n (omega arith))
  where
    longer : (o : Option Load) (xs ys : List Load) → length xs ≤ length ys
        → length (cons_option o xs) ≤ length (cons_option o ys)
    longer None xs ys q = q
    longer (Some x) xs ys q = omega (arith, q)

-- and none has more than all
pub rank_all : (h : Event → Option Load) (es : List Event) (n : ℕ) → length (filter_map h (take n es))
    ≤ length (filter_map h es)
rank_all h es n = elim (cases_lt n (length es)) [
  | inl below ↦
      let whole : take (length es) es ≡ es = take_all (length es) es (omega arith) in
      rw whole at (rank_mono h es n (length es) (omega arith))
  | inr past ↦
      let whole : take n es ≡ es = take_all n es past in
      rw whole (omega arith)
]

-- one more standing
pub occurrences_same : (order : List ℕ) (t i : ℕ) → t < length order → get_or order t 0 ≡ i
    → occurrences (take (t + 1) order) i ≡ occurrences (take t order) i + 1
occurrences_same order t i l e = count_by_more_yes (λ p. p == i) order t 0 l (grind (arith, nat_tests))

pub occurrences_other : (order : List ℕ) (t i : ℕ) → t < length order → get_or order t 0 ≢ i
    → occurrences (take (t + 1) order) i ≡ occurrences (take t order) i
occurrences_other order t i l e = count_by_more_no (λ p. p == i) order t 0 l (ne_eqb (get_or order t 0) i e)

pub occurrences-take-le : (order : List ℕ) (t i : ℕ) → occurrences (take t order) i ≤ occurrences order i
occurrences-take-le order t i = sum_by-take-le _ order t

pub occurrences_mono : (order : List ℕ) (s t i : ℕ) → s ≤ t
    → occurrences (take s order) i ≤ occurrences (take t order) i
occurrences_mono order s t i l =
    let e : take s (take t order) ≡ take s order = take-take s t order l in
    let le : occurrences (take s (take t order)) i ≤ occurrences (take t order) i =
    occurrences-take-le (take t order) s i in
    rw e at le

-- a ring of two or more has no link from a node to itself
pub next_other : (n i : ℕ) → 2 ≤ n → i < n → next n i ≢ i
next_other n i two l e = grind (arith, nat_tests)

pub next_below : (n i : ℕ) → i < n → next n i < n
next_below n i l = grind (arith, nat_tests)
