-- Where a given receipt, sending or standing is found.
use Rattle.std.proofs.Common.{◌≡◌, ℕ, zero, suc, ◌+◌, ◌<◌, ◌≤◌, inl, inr, List, [], ◌∷◌, length, refl, ap, arith}
use Rattle.std.proofs.Common.{get_or, take, Option, Some, None, add-one}
use Rattle.std.specs.List.{filter_map, cons_option}
use Rattle.ira_event.specs.declared.event.Event.{Event}
use Rattle.ira_event.specs.declared.load.Load.{Load}
use Rattle.ira_event.specs.Log.{Log}
use Rattle.ira_event.specs.declared.event.Event.TheVariants.{Sent, Got, Draw, Yield}
use Rattle.ira_order.specs.Ring.{log_of, next, numbered}
use Rattle.ira_order.specs.Matching.{sent, got, sending, receipt, Matches}
use Rattle.ira_order.specs.Order.{occurrences}
use Rattle.ira_order.proofs.Ranks.{occurrences_same, occurrences_other}
use Rattle.std.proofs.lemmas.Bool.{cases_lt, cases_eq}
use Rattle.ira_order.proofs.OrderPrefixes.{rank_more}
use Rattle.ira_order.proofs.Pairing.{numbered-within}

-- a number that begins at most at a and ends above it passes it in one step
pub crossing : (f : ℕ → ℕ) (n a : ℕ) → f 0 ≤ a → a < f n → (t : ℕ) × (t < n) × (f t ≤ a) × (a < f (t + 1))
crossing f zero a low high = absurd (omega arith)
crossing f (suc n) a low high = elim (cases_lt a (f n)) [
  | inl before ↦ (let r = crossing f n a low before in (r.0, (omega arith), r.2, r.3))
  | inr here ↦ (n, (omega arith), here, rw (add-one n) high)
]

-- the event of a given rank
pub record Ranked (h : Event → Option Load) (es : List Event) (n r : ℕ) (d : Event) : Type 0 where
  pub place : ℕ
  pub below : place < n
  pub rank : length (filter_map h (take place es)) ≡ r
  pub next_rank : length (filter_map h (take (place + 1) es)) ≡ r + 1
  pub message : Load
  pub is : h (get_or es place d) ≡ Some message

some_of : (o : Option Load) (k r : ℕ) → k ≤ r → r < k + length (cons_option o []) → (x : Load) × (o ≡ Some x) × (k ≡ r)
some_of None k r a b = absurd (omega arith)
some_of (Some x) k r a b = (x, refl, omega arith)

pub ranked : (h : Event → Option Load) (es : List Event) (n r : ℕ) (d : Event) → n ≤ length es
    → r < length (filter_map h (take n es)) → Ranked h es n r d
ranked h es n r d within high =
    let c = crossing (λ t. length (filter_map h (take t es))) n r (omega arith) high in
    let more : length (filter_map h (take (c.0 + 1) es))
    ≡ length (filter_map h (take c.0 es)) + length (cons_option (h (get_or es c.0 d)) []) =
    rank_more h es c.0 d (omega (arith, c.1)) in
    let s = some_of (h (get_or es c.0 d)) (length (filter_map h (take c.0 es))) r c.2 (omega (arith, more, c.3)) in
    let one : length (cons_option (h (get_or es c.0 d)) []) ≡ 1 =
    ap (λ (x : Option Load). length (cons_option x [])) s.1 in
    record { place = c.0; below = c.1; rank = s.2; next_rank = omega (arith, more, s.2, one); message = s.0; is = s.1 }

-- where a place stands for a given time
pub stands : (order : List ℕ) (n i a : ℕ) → n ≤ length order → a < occurrences (take n order) i → (t : ℕ) × (t < n)
    × (get_or order t 0 ≡ i) × (occurrences (take t order) i ≡ a) × (occurrences (take (t + 1) order) i ≡ a + 1)
stands order n i a within high =
    let c = crossing (λ t. occurrences (take t order) i) n a (omega arith) high in
    let here : c.0 < length order = omega (arith, c.1) in
    elim (cases_eq (get_or order c.0 0) i) [
      | inl same ↦ (let more = occurrences_same order c.0 i here same in
          (c.0, c.1, same, omega (arith, more, c.2, c.3), omega (arith, more, c.2, c.3)))
      | inr other ↦ absurd (omega (arith, occurrences_other order c.0 i here other, c.2, c.3))
    ]

pub is_sending : (e : Event) (x : Load) → sending e ≡ Some x → e ≡ Sent x
is_sending (Sent m) x h = cc
is_sending (Got m) x h = cc
is_sending (Draw m) x h = cc
is_sending Yield x h = cc

pub is_receipt : (e : Event) (x : Load) → receipt e ≡ Some x → e ≡ Got x
is_receipt (Sent m) x h = cc
is_receipt (Got m) x h = cc
is_receipt (Draw m) x h = cc
is_receipt Yield x h = cc

pub numbered_some : (xs : List Load) (k : ℕ) → k < length xs → (m : Load) × (numbered xs (suc k) ≡ Some m)
numbered_some [] k h = absurd (omega arith)
numbered_some (x ∷ xs) zero h = (x, refl)
numbered_some (x ∷ xs) (suc k) h = numbered_some xs k (omega arith)

-- where logs match, there are no more receipts than sendings
pub fewer_receipts : (logs : List Log) (i : ℕ) → Matches logs → i < length logs
    → length (got (log_of logs (next (length logs) i))) ≤ length (sent (log_of logs i))
fewer_receipts logs i matches l =
    elim (cases_lt (length (sent (log_of logs i))) (length (got (log_of logs (next (length logs) i))))) [
      | inr fine ↦ fine
      | inl more ↦
          let m = numbered_some (got (log_of logs (next (length logs) i))) (length (sent (log_of logs i))) more in
          absurd (omega (
            arith,
            numbered-within (sent (log_of logs i)) (suc (length (sent (log_of logs i)))) m.0
                (matches i l (suc (length (sent (log_of logs i)))) m.0 m.1),
          ))
    ]
