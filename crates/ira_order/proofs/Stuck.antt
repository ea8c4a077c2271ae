-- Where no place can go on and one is not at its end, there is no order.
use Rattle.std.proofs.Common.{◌≡◌, ◌≢◌, ℕ, zero, suc, ◌+◌, ◌<◌, ◌≤◌, inl, inr, List, length, sym, ◌∙◌, arith, get_or}
use Rattle.std.proofs.Common.{take, add-one}
use Rattle.ira_event.specs.Log.{Log}
use Rattle.std.specs.Prelude.{All}
use Rattle.ira_order.specs.Ring.{log_of, next}
use Rattle.ira_order.specs.Matching.{sent, got, sending}
use Rattle.ira_order.specs.Order.{occurrences}
use Rattle.ira_order.specs.Counts.{IsReady, IsKept}
use Rattle.ira_order.proofs.Ranks.{rank_mono, occurrences_same, occurrences_other, occurrences-take-le, next_other}
use Rattle.std.proofs.lemmas.Bool.{cases_lt, cases_eq}
use Rattle.std.proofs.lemmas.List.{take_all}

module _ (logs : List Log) (order : List ℕ) (at : ℕ → ℕ)
    (two : 2 ≤ length logs)
    (places : All (λ p. p < length logs) order)
    (within : (i : ℕ) → i < length logs → occurrences order i ≤ length (log_of logs i))
    (kept : IsKept logs order)
    (stuck : (i : ℕ) → i < length logs → IsReady logs at i → ⊥) where
  -- an order that has not yet passed the stuck cut doesn't pass it in one step
  step_below : (t : ℕ) → t < length order → ((j : ℕ) → j < length logs → occurrences (take t order) j ≤ at j) → (j : ℕ)
      → j < length logs → occurrences (take (t + 1) order) j ≤ at j
  step_below t l before j lj = elim (cases_eq (get_or order t 0) j) [
    | inr other ↦ omega (arith, occurrences_other order t j l other, before j lj)
    | inl same ↦ elim (cases_lt (occurrences (take t order) j) (at j)) [
      | inl room ↦ omega (arith, occurrences_same order t j l same)
      | inr full ↦
          let more : occurrences (take (t + 1) order) j ≡ at j + 1 =
          omega (arith, occurrences_same order t j l same, before j lj) in
          absurd (stuck j lj (
            omega (arith, occurrences-take-le order (t + 1) j, within j lj),
            λ k lk e.
                let ne : get_or order t 0 ≢ k = λ q. next_other (length logs) k two lk (e ∙ sym same ∙ q) in
                let covered : length (got
                (take (occurrences (take (t + 1) order) (next (length logs) k))
                (log_of logs (next (length logs) k))))
                ≤ length (sent (take (occurrences (take (t + 1) order) k) (log_of logs k))) =
                kept (t + 1) (omega arith) k lk in
                let at_j = rw (e, more) at covered in
                let fewer : occurrences (take (t + 1) order) k ≤ at k =
                omega (arith, occurrences_other order t k l ne, before k lk) in
                omega (
                  arith,
                  at_j,
                  rank_mono sending (log_of logs k) (occurrences (take (t + 1) order) k) (at k)
                      fewer,
                ),
          ))
    ]
  ]

  below : (t : ℕ) → t ≤ length order → (j : ℕ) → j < length logs → occurrences (take t order) j ≤ at j
  below zero l j lj = omega arith
  below (suc t) l j lj = rw (← add-one t) (step_below t (omega arith) (below t (omega arith)) j lj)

  pub all_below : (j : ℕ) → j < length logs → occurrences order j ≤ at j
  all_below j lj =
      let whole : take (length order) order ≡ order = take_all (length order) order (omega arith) in
      let end : occurrences (take (length order) order) j ≤ at j = below (length order) (omega arith) j lj in
      rw whole at end
