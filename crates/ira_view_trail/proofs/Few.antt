-- There are not many events.
use Rattle.std.proofs.Common.{◌≡◌, ℕ, zero, suc, ◌+◌, ◌*◌, ◌^◌, ◌<◌, ◌≤◌, inl, inr, List, [], ◌∷◌, length, ap, arith, get_or}
use Rattle.std.specs.Prelude.{All, sum_by}
use Rattle.std.proofs.lemmas.Bool.{cases_eq}
use Rattle.std.proofs.lemmas.List.Elements.{All-from_get_or, All-head, All-tail}
use Rattle.std.proofs.lemmas.List.Sums.{sum_by-le}
use Rattle.std.proofs.lemmas.Option.{slice_get-get_or, slice_get_cases}
use Rattle.ira_event.specs.Limits.{MAX_NODES, MAX_RECORDS}
use Rattle.ira_event.specs.Log.{Log}
use Rattle.ira_event.specs.Logs.{AreLogs}
use Rattle.ira_order.specs.Order.{occurrences}
use Rattle.ira_order.specs.Ring.{events_of, log_of}
use Rattle.ira_view_trail.specs.Right.{HasRows}
use Rattle.ira_order.proofs.Cuts.{cons_other, cons_same}

-- a log isn't long
pub few_events : (logs : List Log) (i : ℕ) → AreLogs logs → length (log_of logs i) ≤ MAX_RECORDS
few_events logs i are = elim (slice_get_cases logs i).1 [
  | inl found ↦ omega (arith, ap (λ o. length (events_of o)) found.2, (are.valid i found.0 found.2).count)
  | inr past ↦ omega (arith, ap (λ o. length (events_of o)) past.1)
]

abbrev total : (ℕ → ℕ) → ℕ → ℕ
total f zero = 0
total f (suc n) = total f n + f n

total_le : (f : ℕ → ℕ) (n : ℕ) → ((i : ℕ) → i < n → f i ≤ MAX_RECORDS) → total f n ≤ n * MAX_RECORDS
total_le f zero each = omega arith
total_le f (suc n) each = omega (arith, total_le f n (λ i l. each i (omega (arith, l))), each n (omega arith))

total_above : (p : ℕ) (s : List ℕ) (n : ℕ) → n ≤ p → total (occurrences (p ∷ s)) n ≡ total (occurrences s) n
total_above p s zero l = omega arith
total_above p s (suc n) l =
    omega (arith, total_above p s n (omega (arith, l)), cons_other p n s (λ q. omega (arith, q, l)))

total_below : (p : ℕ) (s : List ℕ) (n : ℕ) → p < n → total (occurrences (p ∷ s)) n ≡ suc (total (occurrences s) n)
total_below p s zero l = absurd (omega arith)
total_below p s (suc n) l = elim (cases_eq p n) [
  | inl same ↦ omega (arith, total_above p s n (omega (arith, same)), cons_same p n s same)
  | inr ne ↦ omega (arith, total_below p s n (omega (arith, l, ne)), cons_other p n s ne)
]

total_none : (n : ℕ) → total (occurrences []) n ≡ 0
total_none zero = omega arith
total_none (suc n) = omega (arith, total_none n)

count_all : (n : ℕ) (s : List ℕ) → All (λ p. p < n) s → length s ≡ total (occurrences s) n
count_all n [] each = omega (arith, total_none n)
count_all n (p ∷ s) each =
    omega (
      arith,
      count_all n s (All-tail (λ p. p < n) p s each),
      total_below p s n (All-head (λ p. p < n) p s each),
    )

pub few_in_order : (logs : List Log) (order : List ℕ) → AreLogs logs → All (λ p. p < length logs) order
    → ((i : ℕ) → i < length logs → occurrences order i ≤ length (log_of logs i))
    → length order ≤ MAX_NODES * MAX_RECORDS
few_in_order logs order are places within =
    omega (
      arith,
      count_all (length logs) order places,
      total_le (occurrences order) (length logs) (λ i l. omega (arith, within i l, few_events logs i are)),
      are.ring.1,
    )

-- there are not many columns
pub few_in_all : (logs : List Log) (table : List (List ℕ)) → AreLogs logs → HasRows logs table
    → sum_by length table < 2 ^ 32
few_in_all logs table ring has =
    let each : All (λ (row : List ℕ). length row ≤ MAX_RECORDS) table =
    All-from_get_or (λ (row : List ℕ). length row ≤ MAX_RECORDS) table [] (λ k within.
    omega (arith, has.each k (get_or table k []) (slice_get-get_or table k [] within), few_events logs k ring)) in
    omega (arith, sum_by-le length MAX_RECORDS table each, has.places, ring.ring.1)
