-- Logs that match have an order or a circle.
use Rattle.std.proofs.Common.{◌≡◌, ℕ, zero, suc, ◌+◌, ◌<◌, ◌≤◌, ◌⊎◌, inl, inr, List, length, take, sym, subst, arith}
use Rattle.std.specs.List.{sum_by}
use Rattle.std.proofs.lemmas.Bool.{cases_eq, cases_lt}
use Rattle.std.proofs.lemmas.List.{length_push}
use Rattle.std.proofs.lemmas.Option.{slice_get_cases}
use Rattle.ira_event.specs.Log.{Log}
use Rattle.ira_event.specs.Logs.{AreLogs}
use Rattle.ira_event.proofs.TextsAnswered.{Decided}
use Rattle.ira_order.specs.Ring.{log_of, next}
use Rattle.ira_order.specs.Matching.{sent, got, Matches}
use Rattle.ira_order.specs.Circle.{HasCircle, HasOrder}
use Rattle.ira_order.specs.Counts.{IsReady}
use Rattle.ira_order.specs.Order.{occurrences}
use Rattle.ira_order.specs.OrderPrefix.{IsOrderPrefix, IsLongest, IsStuckAt, OrderPrefix}
use Rattle.ira_order.proofs.Tallies.{prefix_step}
use Rattle.ira_order.proofs.Rounds.{event_count, few_places, whole_order, no_order, no_step_yet}

-- a fact holds below n, or somewhere it doesn't
below_or_other : (P : ℕ → Type 0) → ((i : ℕ) → Decided (P i)) → (n : ℕ) → ((i : ℕ) → i < n → P i)
    ⊎ ((i : ℕ) × (i < n) × (¬ (P i)))
below_or_other P decided zero = inl (λ i l. absurd (omega (arith, l)))
below_or_other P decided (suc n) = elim (below_or_other P decided n) [
  | inr other ↦ inr (other.0, omega (arith, other.1), other.2)
  | inl before ↦ elim (decided n) [
    | inr other ↦ inr (n, omega arith, other)
    | inl here ↦ inl (λ i l. elim (cases_eq i n) [
      | inl e ↦ subst P (sym e) here
      | inr ne ↦ before i (omega (arith, l))
    ])
  ]
]

at_most : (a b : ℕ) → Decided (a ≤ b)
at_most a b = elim (cases_lt b a) [ inl more ↦ inr (λ l. omega (arith, l, more)) | inr l ↦ inl l ]

is_covered : (logs : List Log) (at : ℕ → ℕ) (i j : ℕ)
    → Decided (next (length logs) j ≡ i
    → length (got (take (at i + 1) (log_of logs i))) ≤ length (sent (take (at j) (log_of logs j))))
is_covered logs at i j = elim (cases_eq (next (length logs) j) i) [
  | inr other ↦ inl (λ e. absurd (other e))
  | inl leads ↦ elim (at_most (length (got (take (at i + 1) (log_of logs i))))
      (length (sent (take (at j) (log_of logs j))))) [
        | inl l ↦ inl (λ e. l)
        | inr more ↦ inr (λ covered. more (covered leads))
      ]
]

can_step : (logs : List Log) (at : ℕ → ℕ) (i : ℕ) → Decided (IsReady logs at i)
can_step logs at i = elim (cases_lt (at i) (length (log_of logs i))) [
  | inr past ↦ inr (λ can. omega (arith, can.0, past))
  | inl more ↦ elim (below_or_other _ (is_covered logs at i) (length logs)) [
    | inl covered ↦ inl (more, λ j l. covered j l)
    | inr other ↦ inr (λ can. other.2 (can.1 other.0 other.1))
  ]
]

stuck_at : (logs : List Log) (at : ℕ → ℕ) (i : ℕ) → Decided (IsStuckAt logs at i)
stuck_at logs at i = elim (can_step logs at i) [ inl can ↦ inr (λ stuck. stuck can) | inr stuck ↦ inl stuck ]

module _ (logs : List Log) (are : AreLogs logs) where
  go_on : (room : ℕ) (p : OrderPrefix) → IsOrderPrefix logs p → sum_by event_count logs < room + length p.places
      → (q : OrderPrefix) × IsLongest logs q
  go_on zero p prefix less = absurd (omega (arith, few_places logs p prefix, less))
  go_on (suc room) p prefix less =
      elim (below_or_other (IsStuckAt logs (occurrences p.places)) (stuck_at logs (occurrences p.places))
      (length logs)) [
        | inl stuck ↦ (p, record { prefix = prefix; stuck = stuck })
        | inr free ↦ elim (can_step logs (occurrences p.places) free.0) [
          | inr stuck ↦ absurd (free.2 stuck)
          | inl can ↦ elim (slice_get_cases (log_of logs free.0) (occurrences p.places free.0)).1 [
            | inr past ↦ absurd (omega (arith, past.0, can.0))
            | inl found ↦ go_on room _ (prefix_step logs p free.0 found.0 prefix free.1 can found.2)
                (omega (arith, length_push p.places free.0, less))
          ]
        ]
      ]

  -- logs have a beginning of an order that no event may come after
  pub some_longest : (q : OrderPrefix) × IsLongest logs q
  some_longest = go_on (sum_by event_count logs + 1) _ (no_step_yet logs are) (omega arith)

  pub order_or_circle : Matches logs → HasOrder logs ⊎ HasCircle logs
  order_or_circle matches =
      let q : OrderPrefix = some_longest.0 in
      let prefix : IsOrderPrefix logs some_longest.0 = some_longest.1.prefix in
      elim (below_or_other (λ i. length (log_of logs i) ≤ occurrences some_longest.0.places i) (λ i.
      at_most (length (log_of logs i)) (occurrences some_longest.0.places i)) (length logs)) [
        | inl whole ↦ inl (
          matches,
          q.places,
          whole_order logs q matches prefix (λ i l. omega (arith, whole i l, prefix.schedule.within i l)),
        )
        | inr short ↦ inr (
          matches,
          no_order logs q matches some_longest.1 (short.0, short.1, omega (arith, short.2)),
        )
      ]
