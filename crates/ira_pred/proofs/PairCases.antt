-- The question of pairs keeps all limits.
use Rattle.std.proofs.Common.{◌≡◌, ◌<◌, ◌≤◌, ℕ, zero, suc, ◌+◌, ◌*◌, ◌-◌, List, [], ◌∷◌, ◌++◌, map, length, refl, sym}
use Rattle.std.proofs.Common.{ap, ◌∙◌, arith, length-append, append_assoc, codes}
use Rattle.std.specs.Prelude.{All, decimal}
use Rattle.std.specs.List.{flat_map}
use Rattle.std.proofs.lemmas.List.Elements.{All-nil, All-cons, All-head, All-tail, All-append}
use Rattle.std.proofs.lemmas.List.Kept.{AllPairs-cons}
use Rattle.std.proofs.lemmas.Fmt.{length-decimal-le}
use Rattle.ira_event.specs.Limits.{MAX_NODES}
use Rattle.ira_event.specs.RingSize.{IsRingSize}
use Rattle.ira_pred.specs.Formula.{leader}
use Rattle.ira_pred.specs.Case.{Conjunct, IsConjunct, IsCase}
use Rattle.ira_pred.specs.Limits.{MAX_CASES}
use Rattle.ira_pred.specs.Question.{IsQuestion}
use Rattle.ira_pred.specs.QuestionText.{conjunct_text, case_text, IsShort}
use Rattle.ira_pred.specs.Pairs.{numbers_from, pair_case, cases_of_place, pairs_asked}

-- the first of the numbers that are left
pub next-number : (i n : ℕ) → i < n → numbers_from i (n - i) ≡ i ∷ numbers_from (i + 1) (n - (i + 1))
next-number i n h = let e : n - i ≡ suc (n - (i + 1)) = omega arith in ap (numbers_from i) e

-- no number is left
pub last-number : (i n : ℕ) → n ≤ i → numbers_from i (n - i) ≡ []
last-number i n h = let e : n - i ≡ 0 = omega arith in ap (numbers_from i) e

-- what is left grows shorter by its first piece
pub shifted : {X : Type 0} (done : List X) (piece left rest : List X) → left ≡ piece ++ rest
    → (done ++ piece) ++ rest ≡ done ++ left
shifted done piece left rest e = append_assoc done piece rest ∙ ap (λ x. done ++ x) (sym e)

-- ---- each case of the pairs

leads : (nodes place : ℕ) → place < nodes → IsConjunct nodes (record { place = place; formula = leader })
leads nodes place h = record { in_ring = h; deep = omega arith; numbers = tt }

not-nil : {X : Type 0} (x : X) (xs : List X) → x ∷ xs ≡ [] → ⊥
not-nil x xs e = cc

pub pair-is-case : (nodes i j : ℕ) → i < j → j < nodes → IsCase nodes (pair_case i j)
pair-is-case nodes i j low high =
    let one : IsConjunct nodes (record { place = i; formula = leader }) = leads nodes i (omega arith) in
    let two = leads nodes j high in
    let second = record { place = j; formula = leader } ∷ [] in record {
      some = not-nil _ _;
      conjuncts_are = record {
        each = All-cons (IsConjunct nodes) _ second one
            (All-cons (IsConjunct nodes) _ [] two (All-nil (IsConjunct nodes)));
        rising = AllPairs-cons (λ a b. a.place < b.place) _ second
            (All-cons (λ b. i < b.place) _ [] low (All-nil (λ b. i < b.place)))
            (AllPairs-cons (λ a b. a.place < b.place) _ [] (All-nil (λ b. j < b.place)) (λ p q d lt within.
            absurd (omega arith)));
      };
    }

row : (P : List Conjunct → Type 0) (n i : ℕ) → ((j : ℕ) → i < j → j < n → P (pair_case i j)) → (j k : ℕ) → i < j
    → j + k ≤ n → All P (map (pair_case i) (numbers_from j k))
row P n i h j zero low high = All-nil P
row P n i h j (suc k) low high =
    All-cons P _ _ (h j low (omega arith)) (row P n i h (j + 1) k (omega arith) (omega arith))

rows : (P : List Conjunct → Type 0) (n : ℕ) → ((i j : ℕ) → i < j → j < n → P (pair_case i j)) → (i k : ℕ) → i + k ≤ n
    → All P (flat_map (cases_of_place n) (numbers_from i k))
rows P n h i zero high = All-nil P
rows P n h i (suc k) high =
    All-append P _ _ (row P n i (h i) (i + 1) (n - (i + 1)) (omega arith) (omega arith))
    (rows P n h (i + 1) k (omega arith))

-- what holds of each pair below n holds of each case
pub All-pairs : (P : List Conjunct → Type 0) (n : ℕ) → ((i j : ℕ) → i < j → j < n → P (pair_case i j))
    → All P (pairs_asked n).cases
All-pairs P n h = rows P n h 0 n (omega arith)

-- ---- how many there are

triangle : ℕ → ℕ
triangle zero = 0
triangle (suc k) = k + triangle k

length-row : (i j k : ℕ) → length (map (pair_case i) (numbers_from j k)) ≡ k
length-row i j zero = refl
length-row i j (suc k) = ap suc (length-row i (j + 1) k)

length-rows : (n i k : ℕ) → i + k ≡ n → length (flat_map (cases_of_place n) (numbers_from i k)) ≡ triangle k
unfolding triangle
length-rows n i zero e = refl
length-rows n i (suc k) e =
    let rest = length-rows n (i + 1) k (omega arith) in
    let first = length-row i (i + 1) (n - (i + 1)) in
    let both = length-append (cases_of_place n i) (flat_map (cases_of_place n) (numbers_from (i + 1) k)) in
    omega arith

triangle-step : (k : ℕ) → triangle k ≤ triangle (suc k)
unfolding triangle
triangle-step k = omega arith

triangle-more : (k d : ℕ) → triangle k ≤ triangle (d + k)
triangle-more k zero = let e : triangle (0 + k) ≡ triangle k = ap triangle (omega arith) in omega arith
triangle-more k (suc d) =
    let e : triangle (suc d + k) ≡ triangle (suc (d + k)) = ap triangle (omega arith) in
    let step = triangle-step (d + k) in
    let before = triangle-more k d in
    omega arith

triangle-all : triangle MAX_NODES ≡ MAX_CASES
unfolding triangle
triangle-all = refl

triangle-2 : triangle 2 ≡ 1
unfolding triangle
triangle-2 = refl

pub pairs-count : (n : ℕ) → n ≤ MAX_NODES → length (pairs_asked n).cases ≤ MAX_CASES
pairs-count n h =
    let e : triangle ((MAX_NODES - n) + n) ≡ triangle MAX_NODES = ap triangle (omega arith) in
    let most = triangle-more n (MAX_NODES - n) in
    let same = length-rows n 0 n (omega arith) in
    let last = triangle-all in
    omega arith

pub pairs-some : (n : ℕ) → 2 ≤ n → 1 ≤ length (pairs_asked n).cases
pairs-some n h =
    let same = length-rows n 0 n (omega arith) in
    let e : triangle ((n - 2) + 2) ≡ triangle n = ap triangle (omega arith) in
    let least = triangle-more 2 (n - 2) in
    let two = triangle-2 in
    omega arith

-- ---- how long their text is

place-short : (n : ℕ) → n < MAX_NODES → length (conjunct_text (record { place = n; formula = leader })) ≤ 12
place-short n h =
    let digits = length-decimal-le 3 n (omega arith) (omega arith) (omega arith) in
    let a = length-append (decimal n ++ codes ": " ++ codes "leader") (codes "\n") in
    let b = length-append (decimal n ++ codes ": ") (codes "leader") in
    let c = length-append (decimal n) (codes ": ") in
    omega arith

case-short : (i j : ℕ) → i < MAX_NODES → j < MAX_NODES → length (case_text (pair_case i j)) ≤ 29
case-short i j low high =
    let one = conjunct_text (record { place = i; formula = leader }) in
    let two = conjunct_text (record { place = j; formula = leader }) in
    let a = length-append (codes "case\n") (flat_map conjunct_text (pair_case i j)) in
    let b = length-append one (two ++ []) in
    let d = length-append two [] in
    let first = place-short i low in
    let second = place-short j high in
    omega arith

texts-short : (cases : List (List Conjunct)) → All (λ x. length (case_text x) ≤ 29) cases
    → length (flat_map case_text cases) ≤ 29 * length cases
texts-short [] h = omega arith
texts-short (x ∷ xs) h =
    let first = All-head (λ y. length (case_text y) ≤ 29) x xs h in
    let rest = texts-short xs (All-tail (λ y. length (case_text y) ≤ 29) x xs h) in
    let both = length-append (case_text x) (flat_map case_text xs) in
    omega arith

pub pairs-short : (n : ℕ) → n ≤ MAX_NODES → IsShort (pairs_asked n)
pairs-short n h =
    let cases = (pairs_asked n).cases in
    let each = texts-short cases
    (All-pairs (λ x. length (case_text x) ≤ 29) n (λ i j low high. case-short i j (omega arith) (omega arith))) in
    let count = pairs-count n h in
    let digits = length-decimal-le 3 n (omega arith) (omega arith) (omega arith) in
    let head = codes "irask 1\n" ++ codes "nodes " in
    let a = length-append (head ++ decimal n ++ codes "\n" ++ flat_map case_text cases) (codes "end\n") in
    let b = length-append (head ++ decimal n ++ codes "\n") (flat_map case_text cases) in
    let d = length-append (head ++ decimal n) (codes "\n") in
    let e = length-append head (decimal n) in
    omega arith

pub pairs-are-question : (n : ℕ) → IsRingSize n → IsQuestion (pairs_asked n)
pairs-are-question n size = record {
  size = size;
  some = pairs-some n size.0;
  count = pairs-count n size.1;
  cases_are = All-pairs (IsCase n) n (pair-is-case n);
}
