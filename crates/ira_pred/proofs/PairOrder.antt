-- The cases of the pairs are those of all pairs, in lexicographic order.
use Rattle.std.proofs.Common.{◌≡◌, ◌<◌, ◌≤◌, ◌⊎◌, ℕ, zero, suc, ◌+◌, ◌-◌, List, [], ◌∷◌, ◌++◌, map, refl, sym, ap}
use Rattle.std.proofs.Common.{subst, ◌∙◌, arith, inl, inr}
use Rattle.std.specs.Prelude.{All, AllPairs, Contains}
use Rattle.std.specs.List.{flat_map}
use Rattle.std.proofs.lemmas.List.Elements.{All-nil, All-cons, All-head, All-tail, All-append, Contains-append_left}
use Rattle.std.proofs.lemmas.List.Elements.{Contains-append_right}
use Rattle.std.proofs.lemmas.List.Kept.{AllPairs-cons}
use Rattle.std.proofs.lemmas.List.{map-append}
use Rattle.ira_pred.specs.Case.{Conjunct}
use Rattle.ira_pred.proofs.Walks.{first-pairs, other-pairs}
use Rattle.ira_pred.specs.Pairs.{numbers_from, pair_case, IsBefore, ArePairCases, cases_of_place, pairs_asked}

abbrev pair : ℕ → ℕ → ℕ × ℕ
pair i j = (i, j)

abbrev case_of : ℕ × ℕ → List Conjunct
case_of p = pair_case p.0 p.1

-- the pairs of place i and each later place below n, and those of k places from i on
row : ℕ → ℕ → List (ℕ × ℕ)
row n i = map (pair i) (numbers_from (i + 1) (n - (i + 1)))

rows : ℕ → ℕ → ℕ → List (ℕ × ℕ)
rows n i k = flat_map (row n) (numbers_from i k)

-- what holds of the pairs of i and so many places from j on
All-row : (P : ℕ × ℕ → Type 0) (i j k : ℕ) → ((m : ℕ) → j ≤ m → m < j + k → P (i, m))
    → All P (map (pair i) (numbers_from j k))
All-row P i j zero h = All-nil P
All-row P i j (suc k) h =
    All-cons P (i, j) _ (h j (omega arith) (omega arith))
    (All-row P i (j + 1) k (λ m low high. h m (omega arith) (omega arith)))

All-rows : (P : ℕ × ℕ → Type 0) (n i k : ℕ) → i + k ≤ n → ((l m : ℕ) → i ≤ l → l < m → m < n → P (l, m))
    → All P (rows n i k)
unfolding row rows
All-rows P n i zero fits h = All-nil P
All-rows P n i (suc k) fits h =
    All-append P (row n i) (rows n (i + 1) k)
    (All-row P i (i + 1) (n - (i + 1)) (λ m low high. h i m (omega arith) (omega arith) (omega arith)))
    (All-rows P n (i + 1) k (omega arith) (λ l m low less high. h l m (omega arith) less high))

pub at_or_above : (j m : ℕ) → j ≤ m → (j ≡ m) ⊎ (j + 1 ≤ m)
at_or_above j m low = grind arith

first-or-later : (i j m : ℕ) (others : List (ℕ × ℕ)) → (j ≡ m) ⊎ Contains others (i, m)
    → Contains ((i, j) ∷ others) (i, m)
first-or-later i j m others (inl e) = (0, omega arith, ap (λ x. (i, x)) e)
first-or-later i j m others (inr h) = Contains-append_right ((i, j) ∷ []) others (i, m) h

later : {A B : Type 0} {C : Type 0} → A ⊎ B → (B → C) → A ⊎ C
later (inl a) f = inl a
later (inr b) f = inr (f b)

row-contains : (i j k m : ℕ) → j ≤ m → m < j + k → Contains (map (pair i) (numbers_from j k)) (pair i m)
row-contains i j zero m low high = absurd (omega (arith, low, high))
row-contains i j (suc k) m low high =
    first-or-later i j m (map (pair i) (numbers_from (j + 1) k))
    (later (at_or_above j m low) (λ above. row-contains i (j + 1) k m above (omega (arith, high))))

-- the row of l is among them, or a later one
pick-row : (n l m i k : ℕ) → (i ≡ l) ⊎ Contains (rows n (i + 1) k) (l, m) → l < m → m < n
    → Contains (rows n i (suc k)) (l, m)
unfolding row rows
pick-row n l m i k (inl e) less high =
    let here = row-contains l (l + 1) (n - (l + 1)) m (omega arith) (omega arith) in
    Contains-append_left (row n i) (rows n (i + 1) k) (l, m) (subst (λ x. Contains (row n x) (l, m)) (sym e) here)
pick-row n l m i k (inr h) less high = Contains-append_right (row n i) (rows n (i + 1) k) (l, m) h

rows-contain : (n l m i k : ℕ) → i ≤ l → l < i + k → l < m → m < n → Contains (rows n i k) (l, m)
rows-contain n l m i zero low within less high = absurd (omega (arith, low, within))
rows-contain n l m i (suc k) low within less high =
    pick-row n l m i k (later (at_or_above i l low) (λ above.
    rows-contain n l m (i + 1) k above (omega (arith, within)) less high)) less high

-- ---- their order

AllPairs-append : {X : Type 0} (R : X → X → Type 0) (xs ys : List X) → AllPairs R xs → AllPairs R ys
    → All (λ x. All (R x) ys) xs → AllPairs R (xs ++ ys)
AllPairs-append R [] ys h k a = k
AllPairs-append R (x ∷ xs) ys h k a =
    AllPairs-cons R x (xs ++ ys) (All-append (R x) xs ys (first-pairs R x xs h) (All-head (λ z. All (R z) ys) x xs a))
    (AllPairs-append R xs ys (other-pairs R x xs h) k (All-tail (λ z. All (R z) ys) x xs a))

none-paired : {X : Type 0} (R : X → X → Type 0) → AllPairs R []
none-paired R i j d lt within = absurd (omega (arith, within))

row-rises : (i j k : ℕ) → AllPairs IsBefore (map (pair i) (numbers_from j k))
row-rises i j zero = none-paired IsBefore
row-rises i j (suc k) =
    AllPairs-cons IsBefore (
      i,
      j,
    ) _ (All-row (IsBefore (i, j)) i (j + 1) k (λ m low high. inr (refl, omega (arith, low))))
    (row-rises i (j + 1) k)

rows-rise : (n i k : ℕ) → i + k ≤ n → AllPairs IsBefore (rows n i k)
unfolding row rows
rows-rise n i zero fits = none-paired IsBefore
rows-rise n i (suc k) fits =
    AllPairs-append IsBefore (row n i) (rows n (i + 1) k) (row-rises i (i + 1) (n - (i + 1)))
    (rows-rise n (i + 1) k (omega arith))
    (All-row (λ p. All (IsBefore p) (rows n (i + 1) k)) i (i + 1) (n - (i + 1)) (λ m low high.
    All-rows (IsBefore (i, m)) n (i + 1) k (omega arith) (λ l q from less below. inl (omega (arith, from)))))

-- ---- the cases are theirs

row-cases : (i j k : ℕ) → map (pair_case i) (numbers_from j k) ≡ map case_of (map (pair i) (numbers_from j k))
row-cases i j zero = refl
row-cases i j (suc k) = ap (λ x. pair_case i j ∷ x) (row-cases i (j + 1) k)

rows-cases : (n i k : ℕ) → flat_map (cases_of_place n) (numbers_from i k) ≡ map case_of (rows n i k)
unfolding row rows
rows-cases n i zero = refl
rows-cases n i (suc k) =
    ap (λ x. x ++ flat_map (cases_of_place n) (numbers_from (i + 1) k)) (row-cases i (i + 1) (n - (i + 1)))
    ∙ ap (λ x. map case_of (row n i) ++ x) (rows-cases n (i + 1) k)
    ∙ sym (map-append case_of (row n i) (rows n (i + 1) k))

pub pair_cases : (n : ℕ) → ArePairCases n (pairs_asked n).cases
pair_cases n = record {
  pairs = rows n 0 n;
  each = All-rows (λ p. (p.0 < p.1) × (p.1 < n)) n 0 n (omega arith) (λ l m low less high. (less, high));
  every = λ i j less high. rows-contain n i j 0 n (omega arith) (omega (arith, less, high)) less high;
  in_order = rows-rise n 0 n (omega arith);
  cases_are = rows-cases n 0 n;
}
