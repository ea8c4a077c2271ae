-- How many receipts there are, and their numbers in a log.
use Rattle.std.proofs.Common.{◌≡◌, ℕ, zero, suc, ◌+◌, ◌-◌, ◌*◌, ◌<◌, ◌≤◌, ◌↔◌, inl, inr, List, false, [], ◌∷◌, ◌++◌}
use Rattle.std.proofs.Common.{length, refl, sym, ◌∙◌, ap, arith, take, get_or, Some, length-append, slice_index, drop}
use Rattle.std.proofs.Common.{add-one, leb, true}
use Rattle.std.specs.List.{All}
use Rattle.ira_event.specs.declared.event.Event.{Event}
use Rattle.ira_event.specs.declared.event.Event.TheVariants.{Got}
use Rattle.ira_event.specs.Log.{Log}
use Rattle.ira_event.specs.Logs.{AreLogs}
use Rattle.ira_order.specs.Ring.{log_of, events_of}
use Rattle.ira_order.specs.Matching.{got, receipt}
use Rattle.ira_order.specs.VectorClock.{receipt_count}
use Rattle.ira_order.specs.Stamps.{receipts_by, AreReceipts}
use Rattle.ira_order.proofs.Ranks.{rank_all, rank_mono}
use Rattle.ira_order.proofs.OrderPrefixes.{counted_more, rank_le, receives_nothing}
use Rattle.std.specs.Prelude.{slice_get}
use Rattle.ira_event.specs.declared.load.Load.{Load}
use Rattle.std.proofs.lemmas.Option.{slice_get-get_or}
use Rattle.std.proofs.lemmas.List.{take_all, get_or_append_left, get_or-append_right, get_or_default}
use Rattle.std.proofs.lemmas.Bool.{leb-true, le-leb, cases_lt, cases_eq}
use Rattle.std.specs.List.Sorted.{IsPartitionPoint, IsPartitionedBy}
use Rattle.std.proofs.lemmas.List.Elements.{All-from_get_or}
use Rattle.std.proofs.lemmas.List.Sums.{sum_by_more, sum_by-take-le, sum_by-le}
use Rattle.ira_event.specs.Limits.{MAX_NODES, MAX_RECORDS}

abbrev received : Log → ℕ
received log = length (got log.events)

abbrev no_log : Log
no_log = record { version = 0; nodes = 0; place = 0; initiator = false; events = [] }

received_is : (logs : List Log) (j : ℕ) → j < length logs
    → received (get_or logs j no_log) ≡ length (got (log_of logs j))
received_is logs j l = sym (ap (λ o. length (got (events_of o))) (slice_get-get_or logs j no_log l))

-- a log has no more receipts than events
pub receipts_le : (es : List Event) → length (got es) ≤ length es
receipts_le es =
    let whole : take (length es) es ≡ es = take_all (length es) es (omega arith) in
    rw whole at (rank_le receipt es (length es))

pub got_le : (es : List Event) (b : ℕ) → length (got (take b es)) ≤ length (got es)
got_le es b = rank_all receipt es b

pub receipts_by_le : (logs : List Log) (j b : ℕ) → receipts_by logs j b ≤ length (got (log_of logs j))
receipts_by_le logs j b = got_le (log_of logs j) b

-- how many receipts the first j nodes have
abbrev pub first_receipt : List Log → ℕ → ℕ
first_receipt logs j = receipt_count (take j logs)

-- and one node more
pub first_more : (logs : List Log) (j : ℕ) → j < length logs
    → first_receipt logs (j + 1) ≡ first_receipt logs j + length (got (log_of logs j))
first_more logs j l = sum_by_more received logs j no_log l
    ∙ ap (λ (x : ℕ). first_receipt logs j + x) (received_is logs j l)

pub first_all : (logs : List Log) → first_receipt logs (length logs) ≡ receipt_count logs
first_all logs = ap receipt_count (take_all (length logs) logs (omega arith))

-- there are not too many to count
pub few_receipts : (logs : List Log) → AreLogs logs → receipt_count logs ≤ MAX_NODES * MAX_RECORDS
few_receipts logs are =
    let each : All (λ log. received log ≤ 100000) logs =
    All-from_get_or (λ log. received log ≤ 100000) logs no_log (λ i l.
    (let v = (are.valid i (get_or logs i no_log) (slice_get-get_or logs i no_log l)).count in
    omega (arith, receipts_le (get_or logs i no_log).events, v))) in
    omega (arith, sum_by-le received 100000 logs each, are.ring.1)

pub few_first : (logs : List Log) (j : ℕ) → AreLogs logs → first_receipt logs j ≤ MAX_NODES * MAX_RECORDS
few_first logs j are = omega (arith, few_receipts logs are, sum_by-take-le received logs j)

-- the numbers of the receipts among the first n events
pub record HasNumbers (es : List Event) (n : ℕ) (numbers : List ℕ) : Type 0 where
  pub count : length numbers ≡ length (got (take n es))
  pub upto : (r x : ℕ) → r < length numbers → (slice_index numbers r ≤ x) ↔ (r < length (got (take x es)))

pub number_over : (es : List Event) (n : ℕ) (e : Event) (numbers : List ℕ) → slice_get es n ≡ Some e
    → ((m : Load) → e ≡ Got m → ⊥) → HasNumbers es n numbers → HasNumbers es (n + 1) numbers
number_over es n e numbers is never h = record {
  count = omega (arith, h.count, counted_more receipt es n e is, receives_nothing e never);
  upto = h.upto;
}

pub number_more : (es : List Event) (n : ℕ) (m : Load) (numbers : List ℕ) → slice_get es n ≡ Some (Got m)
    → HasNumbers es n numbers → HasNumbers es (n + 1) (numbers ++ (n + 1) ∷ [])
number_more es n m numbers is h = record {
  count = omega (arith, length-append numbers ((n + 1) ∷ []), h.count, one_more);
  upto = λ r x l. elim (cases_lt r (length numbers)) [
    | inl below ↦ rw (get_or_append_left numbers ((n + 1) ∷ []) 0 r below) (h.upto r x below)
    | inr top ↦
        let here : r ≡ length numbers = omega (arith, length-append numbers ((n + 1) ∷ []), l) in
        let at : slice_index (numbers ++ (n + 1) ∷ []) r ≡ n + 1 =
        ap (slice_index (numbers ++ (n + 1) ∷ [])) here
        ∙ get_or-append_right numbers ((n + 1) ∷ []) (length numbers) (length numbers) 0 refl (omega arith)
        ∙ nothing_over in
        rw at (
          λ le. omega (arith, here, h.count, one_more, rank_mono receipt es (n + 1) x le),
          λ more. elim (cases_lt n x) [
            | inl fine ↦ omega arith
            | inr early ↦ absurd (omega (arith, here, h.count, rank_mono receipt es x n early))
          ],
        )
  ];
}
  where
    one_more : length (got (take (n + 1) es)) ≡ length (got (take n es)) + 1
    one_more = counted_more receipt es n (Got m) is

    nothing_over : get_or ((n + 1) ∷ []) (length numbers - length numbers) 0 ≡ n + 1
    nothing_over = (let z : length numbers - length numbers ≡ 0 = omega arith in rw z refl)

pub numbers_end : (es : List Event) (n : ℕ) (numbers : List ℕ) → length es ≤ n → HasNumbers es n numbers
    → AreReceipts es numbers
numbers_end es n numbers past h =
    record { count = h.count ∙ ap (λ x. length (got x)) (take_all n es past); upto = h.upto }

-- the next event of those ahead
pub next_ahead : (es : List Event) (n : ℕ) (e : Event) (rest : List Event) → e ∷ rest ≡ drop n es
    → (slice_get es n ≡ Some e) × (rest ≡ drop (n + 1) es)
next_ahead es n e rest is = (at es n is, rw (add-one n) (after es n is))
  where
    at : (es : List Event) (n : ℕ) → e ∷ rest ≡ drop n es → slice_get es n ≡ Some e
    at [] zero is = cc
    at [] (suc n) is = cc
    at (d ∷ es) zero is = cc
    at (d ∷ es) (suc n) is = at es n is

    after : (es : List Event) (n : ℕ) → e ∷ rest ≡ drop n es → rest ≡ drop (suc n) es
    after [] zero is = cc
    after [] (suc n) is = cc
    after (d ∷ es) zero is = cc
    after (d ∷ es) (suc n) is = after es n is

pub none_ahead : (es : List Event) (n : ℕ) → [] ≡ drop n es → length es ≤ n
none_ahead [] n is = omega arith
none_ahead (d ∷ es) zero is = (let z : ⊥ = cc in absurd z)
none_ahead (d ∷ es) (suc n) is = omega (arith, none_ahead es n is)

-- where a search among the numbers ends
module _ (es : List Event) (b : ℕ) (numbers : List ℕ) (are : AreReceipts es numbers) where
  pub numbers_rise : IsPartitionedBy (λ y. leb y b) numbers
  numbers_rise i k d l within low =
      let low' : slice_index numbers k ≤ b = leb-true _ _ (rw (get_or_default numbers k d 0 within) at low) in
      let up : k < length (got (take b es)) = (are.upto k b within).0 low' in
      rw (get_or_default numbers i d 0 (omega arith))
      (le-leb _ _ ((are.upto i b (omega arith)).1 (omega (arith, up, l))))

  fewer : length (got (take b es)) ≤ length numbers
  fewer = omega (arith, are.count, got_le es b)

  pub numbers_point : (r : ℕ) → r ≤ length numbers
      → IsPartitionPoint (λ y. leb y b ≡ true) (λ y. leb y b ≡ false) numbers r → r ≡ length (got (take b es))
  numbers_point r bound point = elim (cases_lt r (length (got (take b es)))) [
    | inl less ↦
        let lr : r < length numbers = omega (arith, less, fewer) in
        let above : leb (slice_index numbers r) b ≡ false = point.1 r 0 (omega arith) lr in
        let below : leb (slice_index numbers r) b ≡ true = le-leb _ _ ((are.upto r b lr).1 less) in
        absurd (let z : ⊥ = cc in z)
    | inr more ↦ elim (cases_eq r (length (got (take b es)))) [
      | inl e ↦ e
      | inr ne ↦
          let less : length (got (take b es)) < r = omega arith in
          let lr : length (got (take b es)) < length numbers = omega (arith, less, bound) in
          let below : leb (slice_index numbers (length (got (take b es)))) b ≡ true =
          point.0 (length (got (take b es))) 0 (omega arith) less in
          absurd (omega (arith, (are.upto (length (got (take b es))) b lr).0 (leb-true _ _ below)))
    ]
  ]
