-- The greatest count, found one node after the other.
use Rattle.std.proofs.Common.{◌≡◌, ℕ, ◌+◌, ◌<◌, ◌≤◌, ◌⊎◌, inl, inr, List, [], ◌∷◌, ◌++◌, Option, get_or, length}
use Rattle.std.proofs.Common.{below_more, refl, sym, ◌∙◌, ap, subst, arith, rules, nat_cmp, length-append}
use Rattle.std.specs.Ordering.{ord_max}
use Rattle.std.proofs.lemmas.Bool.{cases_eq}
use Rattle.std.proofs.lemmas.List.{get_or_push, get_or_append_left}
use Rattle.ira_event.specs.Log.{Log}
use Rattle.ira_order.specs.Order.{IsOrder}
use Rattle.ira_order.specs.VectorClock.{IsCount}
use Rattle.ira_order.proofs.Acyclic.{before_own}
use Rattle.ira_elim.specs.Elimination.{IsFirstLeft, IsGreatestCount}
use Rattle.ira_elim.proofs.Places.{one_first}

greater_of : (r a b : ℕ) → r ≡ ord_max nat_cmp a b → ((r ≡ a) × (b ≤ a)) ⊎ ((r ≡ b) × (a ≤ b))
greater_of r a b e = search rules

-- an event counts no more of its own node than its number
own_count : (logs : List Log) (order : List ℕ) (j q i n : ℕ) → IsOrder logs order → IsCount logs j q i n → i ≡ j → n ≤ q
own_count logs order j q i n is count same = elim (cases_eq n 0) [
  | inl zero ↦ omega (arith, zero)
  | inr some ↦ elim ((count.events n (omega arith)).0 (omega arith)) [
    | inl e ↦ omega (arith, e.1)
    | inr before ↦ (let l : n < q = before_own logs order is j n q (rw same at before) in omega arith)
  ]
]

module _ (logs : List Log) (queues : List (Option (List ℕ))) (places : List ℕ) (place : ℕ) where
  -- c is at or above the counts at the first candidates left of the first k places
  abbrev pub IsUpper : ℕ → ℕ → Type 0
  IsUpper k c = (l : ℕ) → l < k → (q : ℕ) → IsFirstLeft queues (get_or places l 0) q → (n : ℕ)
      × IsCount logs (get_or places l 0) q place n × (n ≤ c)

  -- c is 0 or one of the counts
  abbrev pub IsReached : ℕ → Type 0
  IsReached c = (c ≡ 0) ⊎ ((j : ℕ) × (q : ℕ) × IsFirstLeft queues j q × IsCount logs j q place c × (place ≡ j → c ≤ q))

  raised : (k c d : ℕ) → c ≤ d → IsUpper k c → IsUpper k d
  raised k c d l upper i h q first = let u = upper i h q first in (u.0, u.1, omega (arith, u.2))

  pub greatest_more : (k c p n d : ℕ) (order : List ℕ) → IsOrder logs order → IsFirstLeft queues (get_or places k 0) p
      → IsCount logs (get_or places k 0) p place n → d ≡ ord_max nat_cmp c n → IsUpper k c → IsReached c
      → IsUpper (k + 1) d × IsReached d
  greatest_more k c p n d order is first count e upper reached =
      let j : ℕ = get_or places k 0 in
      let either = greater_of d c n e in
      let low : c ≤ d = elim either [ inl h ↦ omega (arith, h.0) | inr h ↦ omega (arith, h.0, h.1) ] in
      let high : n ≤ d = elim either [ inl h ↦ omega (arith, h.0, h.1) | inr h ↦ omega (arith, h.0) ] in (
        below_more (λ (i : ℕ). (q : ℕ) → IsFirstLeft queues (get_or places i 0) q → (m : ℕ)
            × IsCount logs (get_or places i 0) q place m × (m ≤ d)) k (raised k c d low upper)
            (λ q other. (let same : p ≡ q = one_first queues j j p q refl first other in
            (n, subst (λ (r : ℕ). IsCount logs j r place n) same count, high))),
        elim either [
          | inl h ↦ subst IsReached (sym h.0) reached
          | inr h ↦ subst IsReached (sym h.0) (inr (
            j,
            p,
            first,
            count,
            λ own. own_count logs order j p place n is count own,
          ))
        ],
      )

  pub greatest_stays : (k c d : ℕ) → ((p : ℕ) → IsFirstLeft queues (get_or places k 0) p → ⊥) → d ≡ c → IsUpper k c
      → IsReached c → IsUpper (k + 1) d × IsReached d
  greatest_stays k c d none e upper reached = (
    subst (IsUpper (k + 1)) (sym e) (below_more (λ (i : ℕ). (q : ℕ) → IsFirstLeft queues (get_or places i 0) q → (m : ℕ)
        × IsCount logs (get_or places i 0) q place m × (m ≤ c)) k upper (λ q first. absurd (none q first))),
    subst IsReached (sym e) reached,
  )

-- one place more
pub counts_more : (logs : List Log) (queues : List (Option (List ℕ))) (cut more : List ℕ) (place c : ℕ)
    → more ≡ cut ++ c ∷ [] → length cut ≡ place → ((i : ℕ) → i < place → IsGreatestCount logs queues i (get_or cut i 0))
    → IsGreatestCount logs queues place c → (length more ≡ place + 1)
    × ((i : ℕ) → i < place + 1 → IsGreatestCount logs queues i (get_or more i 0))
counts_more logs queues cut more place c pushed long counts here =
    let long_more : length more ≡ place + 1 =
    omega (arith, ap (λ (xs : List ℕ). length xs) pushed, length-append cut (c ∷ []), long) in
    let last : get_or more place 0 ≡ c =
    ap (λ (xs : List ℕ). get_or xs place 0) pushed ∙ get_or_push cut c 0 place long in
    let Q : ℕ → Type 0 = λ i. IsGreatestCount logs queues i (get_or more i 0) in
    let below : (i : ℕ) → i < place → Q i = λ i l.
    let same : get_or more i 0 ≡ get_or cut i 0 =
    ap (λ (xs : List ℕ). get_or xs i 0) pushed ∙ get_or_append_left cut (c ∷ []) 0 i (omega arith) in
    subst (IsGreatestCount logs queues i) (sym same) (counts i l)
    in
    (long_more, below_more Q place below (subst (IsGreatestCount logs queues place) (sym last) here))
