-- At least half of the ways in which nodes may draw have one greatest.
use Rattle.std.proofs.Common.{◌≡◌, ◌≢◌, ℕ, zero, suc, ◌+◌, ◌*◌, ◌^◌, ◌≤◌, ◌==◌, cond, inl, inr, List, []}
use Rattle.std.proofs.Common.{◌∷◌, refl, sym, ◌∙◌, ap, arith}
use Rattle.std.specs.Prelude.{count_by}
use Rattle.std.proofs.Math.Nat.{pow-zero, pow-succ', mul-add, add-mul, mul-le-mul_left, mul-le-mul_right, mul_assoc, mul_comm}
use Rattle.std.proofs.lemmas.Bool.{cases_eq, eq-eqb, ne_eqb}
use Rattle.ira_order.proofs.Cuts.{cons_same, cons_other}
use Rattle.ira_election.specs.Ways.{total, over_draws, greatest, elects, powers, WaysToDraw, WaysToElect}
use Rattle.ira_election.specs.Ways.{AtLeastHalfElect, HalfIsSharp}

-- ---- sums

pub total_same : (n : ℕ) (f g : ℕ → ℕ) → ((d : ℕ) → 1 ≤ d → d ≤ n → f d ≡ g d) → total n f ≡ total n g
total_same zero f g h = refl
total_same (suc n) f g h =
    omega (arith, total_same n f g (λ d one low. h d one (omega arith)), h (suc n) (omega arith) (omega arith))

pub total_most : (n : ℕ) (f g : ℕ → ℕ) → ((d : ℕ) → 1 ≤ d → d ≤ n → f d ≤ g d) → total n f ≤ total n g
total_most zero f g h = omega arith
total_most (suc n) f g h =
    omega (arith, total_most n f g (λ d one low. h d one (omega arith)), h (suc n) (omega arith) (omega arith))

pub total_add : (n : ℕ) (f g : ℕ → ℕ) → total n (λ d. f d + g d) ≡ total n f + total n g
total_add zero f g = refl
total_add (suc n) f g = omega (arith, total_add n f g)

pub total_of : (n c : ℕ) → total n (λ d. c) ≡ n * c
total_of zero c = omega (arith, zero_mul c)
  where
    zero_mul : (c : ℕ) → zero * c ≡ 0
    zero_mul c = omega arith
total_of (suc n) c = omega (arith, total_of n c, suc_mul n c)
  where
    suc_mul : (n c : ℕ) → suc n * c ≡ n * c + c
    suc_mul n c = omega (arith, add-mul n 1 c)

-- each ID is at most n
abbrev pub IsWithin : ℕ → List ℕ → Type 0
IsWithin n [] = Unit {0}
IsWithin n (d ∷ ds) = (d ≤ n) × IsWithin n ds

pub over_same : (n k : ℕ) (w v : List ℕ → ℕ) → ((ds : List ℕ) → IsWithin n ds → w ds ≡ v ds)
    → over_draws n k w ≡ over_draws n k v
over_same n zero w v h = h [] tt
over_same n (suc k) w v h =
    total_same n (λ d. over_draws n k (λ ds. w (d ∷ ds))) (λ d. over_draws n k (λ ds. v (d ∷ ds))) (λ d one low.
    over_same n k (λ ds. w (d ∷ ds)) (λ ds. v (d ∷ ds)) (λ ds is. h (d ∷ ds) (low, is)))

pub over_add : (n k : ℕ) (w v : List ℕ → ℕ) → over_draws n k (λ ds. w ds + v ds) ≡ over_draws n k w + over_draws n k v
over_add n zero w v = refl
over_add n (suc k) w v =
    total_same n (λ d. over_draws n k (λ ds. w (d ∷ ds) + v (d ∷ ds)))
    (λ d. over_draws n k (λ ds. w (d ∷ ds)) + over_draws n k (λ ds. v (d ∷ ds))) (λ d one low.
    over_add n k (λ ds. w (d ∷ ds)) (λ ds. v (d ∷ ds)))
    ∙ total_add n (λ d. over_draws n k (λ ds. w (d ∷ ds))) (λ d. over_draws n k (λ ds. v (d ∷ ds)))

pub over_none : (n k : ℕ) → over_draws n k (λ ds. 0) ≡ 0
over_none n zero = refl
over_none n (suc k) =
    total_same n (λ d. over_draws n k (λ ds. 0)) (λ d. 0) (λ d one low. over_none n k) ∙ total_of n 0
    ∙ mul_zero n
  where
    mul_zero : (n : ℕ) → n * 0 ≡ 0
    mul_zero n = omega arith

pub ways_to_draw : WaysToDraw
ways_to_draw n zero = sym (pow-zero n)
ways_to_draw n (suc k) =
    total_same n (λ d. over_draws n k (λ ds. 1)) (λ d. n ^ k) (λ d one low. ways_to_draw n k) ∙ total_of n (n ^ k)
    ∙ sym (pow-succ' n k)

-- ---- how often the greatest ID that there may be is drawn

abbrev pub tops : ℕ → List ℕ → ℕ
tops t ds = count_by (λ d. d == t) ds

pub tops_here : (t d : ℕ) (ds : List ℕ) → d ≡ t → tops t (d ∷ ds) ≡ suc (tops t ds)
tops_here t d ds e = omega (arith, cons_same d t ds e)

pub tops_other : (t d : ℕ) (ds : List ℕ) → d ≢ t → tops t (d ∷ ds) ≡ tops t ds
tops_other t d ds ne = cons_other d t ds ne

cond_zero : (a b : ℕ) → cond {A = ℕ} (suc a == 0) b 0 ≡ 0
cond_zero a b = rw (ne_eqb (suc a) 0 (λ e. omega arith)) refl

cond_one : (a : ℕ) → cond {A = ℕ} (suc a == 1) 1 0 ≡ cond {A = ℕ} (a == 0) 1 0
cond_one a = elim (cases_eq a 0) [
  | inl e ↦ rw (eq-eqb a 0 e, eq-eqb (suc a) 1 (omega arith)) refl
  | inr ne ↦ rw (ne_eqb a 0 ne, ne_eqb (suc a) 1 (λ q. ne (omega arith))) refl
]

-- the lists without it are those of lesser IDs
without : (n k : ℕ) (w : List ℕ → ℕ)
    → over_draws (suc n) k (λ ds. cond (tops (suc n) ds == 0) (w ds) 0) ≡ over_draws n k w
without n zero w = refl
without n (suc k) w =
    let F : ℕ → ℕ = λ d. over_draws (suc n) k (λ ds. cond (tops (suc n) (d ∷ ds) == 0) (w (d ∷ ds)) 0) in
    let below : total n F ≡ total n (λ d. over_draws n k (λ ds. w (d ∷ ds))) =
    total_same n F (λ d. over_draws n k (λ ds. w (d ∷ ds))) (λ d one low.
    over_same (suc n) k (λ ds. cond (tops (suc n) (d ∷ ds) == 0) (w (d ∷ ds)) 0)
    (λ ds. cond (tops (suc n) ds == 0) (w (d ∷ ds)) 0) (λ ds is.
    ap (λ (x : ℕ). cond (x == 0) (w (d ∷ ds)) 0) (tops_other (suc n) d ds (λ e. omega arith)))
    ∙ without n k (λ ds. w (d ∷ ds))) in
    let above : F (suc n) ≡ 0 =
    over_same (suc n) k (λ ds. cond (tops (suc n) (suc n ∷ ds) == 0) (w (suc n ∷ ds)) 0) (λ ds. 0) (λ ds is.
    ap (λ (x : ℕ). cond (x == 0) (w (suc n ∷ ds)) 0) (tops_here (suc n) (suc n) ds refl)
    ∙ cond_zero (tops (suc n) ds) (w (suc n ∷ ds)))
    ∙ over_none (suc n) k in
    omega (arith, below, above)

-- those that have it once
once : ℕ → ℕ → ℕ
once n k = over_draws (suc n) k (λ ds. cond (tops (suc n) ds == 1) 1 0)

once_more : (n k : ℕ) → once n (suc k) ≡ n * once n k + n ^ k
unfolding once
once_more n k =
    let F : ℕ → ℕ = λ d. over_draws (suc n) k (λ ds. cond (tops (suc n) (d ∷ ds) == 1) 1 0) in
    let below : total n F ≡ n * over_draws (suc n) k (λ ds. cond (tops (suc n) ds == 1) 1 0) =
    total_same n F (λ d. over_draws (suc n) k (λ ds. cond (tops (suc n) ds == 1) 1 0)) (λ d one low.
    over_same (suc n) k (λ ds. cond (tops (suc n) (d ∷ ds) == 1) 1 0)
    (λ ds. cond (tops (suc n) ds == 1) 1 0) (λ ds is.
    ap (λ (x : ℕ). cond (x == 1) 1 0) (tops_other (suc n) d ds (λ e. omega arith))))
    ∙ total_of n (over_draws (suc n) k (λ ds. cond (tops (suc n) ds == 1) 1 0)) in
    let above : F (suc n) ≡ n ^ k =
    over_same (suc n) k (λ ds. cond (tops (suc n) (suc n ∷ ds) == 1) 1 0)
    (λ ds. cond (tops (suc n) ds == 0) 1 0) (λ ds is.
    ap (λ (x : ℕ). cond (x == 1) 1 0) (tops_here (suc n) (suc n) ds refl) ∙ cond_one (tops (suc n) ds))
    ∙ without n k (λ ds. 1) ∙ ways_to_draw n k in
    omega (arith, below, above)

once_is : (n k : ℕ) → once n (suc k) ≡ suc k * n ^ k
unfolding once
once_is n zero = once_more n zero ∙ first
  where
    first : n * once n zero + n ^ zero ≡ suc zero * n ^ zero
    first = omega arith
once_is n (suc k) =
    once_more n (suc k)
    ∙ ap (λ (x : ℕ). n * x + n ^ suc k) (once_is n k)
    ∙ ap (λ (x : ℕ). x + n ^ suc k) (sym (mul_assoc n (suc k) (n ^ k)) ∙ ap (λ (x : ℕ). x * n ^ k) (mul_comm n (suc k))
    ∙ mul_assoc (suc k) n (n ^ k) ∙ ap (λ (x : ℕ). suc k * x) (sym (pow-succ' n k)))
    ∙ last (suc k) (n ^ suc k)
  where
    last : (a b : ℕ) → a * b + b ≡ suc a * b
    last a b = omega (arith, add-mul a 1 b)

-- ---- one greatest

greatest_within : (n : ℕ) (ds : List ℕ) → IsWithin n ds → greatest ds ≤ n
greatest_within n [] is = omega arith
greatest_within n (d ∷ ds) is = omega (arith, is.0, greatest_within n ds is.1)

greatest_top : (n : ℕ) (ds : List ℕ) → IsWithin (suc n) ds → 1 ≤ tops (suc n) ds → greatest ds ≡ suc n
greatest_top n [] is some = absurd (omega arith)
greatest_top n (d ∷ ds) is some = elim (cases_eq d (suc n)) [
  | inl e ↦ omega (arith, greatest_within (suc n) ds is.1)
  | inr ne ↦ omega (arith, is.0, greatest_top n ds is.1 (omega (arith, tops_other (suc n) d ds ne)))
]

elects_parts : (n : ℕ) (ds : List ℕ) → IsWithin (suc n) ds
    → elects ds ≡ cond (tops (suc n) ds == 1) 1 0 + cond (tops (suc n) ds == 0) (elects ds) 0
elects_parts n ds is = elim (cases_eq (tops (suc n) ds) 0) [
  | inl none ↦ none_is (tops (suc n) ds) (elects ds) none
  | inr some ↦
      ap (λ (t : ℕ). cond (tops t ds == 1) 1 0) (greatest_top n ds is (omega arith))
      ∙ some_is (tops (suc n) ds) (elects ds) some
]
  where
    none_is : (t e : ℕ) → t ≡ 0 → e ≡ cond (t == 1) 1 0 + cond (t == 0) e 0
    none_is t e z = rw (eq-eqb t 0 z, ne_eqb t 1 (λ q. omega arith)) (omega arith)

    some_is : (t e : ℕ) → t ≢ 0 → cond (t == 1) 1 0 ≡ cond (t == 1) 1 0 + cond (t == 0) e 0
    some_is t e ne = rw (ne_eqb t 0 ne) (omega arith)

elect_more : (n k : ℕ) → over_draws (suc n) (suc k) elects ≡ suc k * n ^ k + over_draws n (suc k) elects
unfolding once
elect_more n k =
    over_same (suc n) (suc k) elects (λ ds. cond (tops (suc n) ds == 1) 1 0
    + cond (tops (suc n) ds == 0) (elects ds) 0) (elects_parts n)
    ∙ over_add (suc n) (suc k) (λ ds. cond (tops (suc n) ds == 1) 1 0)
    (λ ds. cond (tops (suc n) ds == 0) (elects ds) 0)
    ∙ ap (λ (x : ℕ). x + over_draws (suc n) (suc k) (λ ds. cond (tops (suc n) ds == 0) (elects ds) 0)) (once_is n k)
    ∙ ap (λ (x : ℕ). suc k * n ^ k + x) (without n (suc k) elects)

pub ways_to_elect : WaysToElect
ways_to_elect zero k = omega arith
ways_to_elect (suc n) k =
    elect_more n k ∙ ap (λ (x : ℕ). suc k * n ^ k + x) (ways_to_elect n k)
    ∙ last (suc k) (n ^ k) (powers n k)
  where
    last : (a b c : ℕ) → a * b + a * c ≡ a * (c + b)
    last a b c = omega (arith, mul-add a c b)

-- ---- half

pow_one : (a : ℕ) → a ^ 1 ≡ a
pow_one a = pow-succ' a 0 ∙ ap (λ (x : ℕ). a * x) (pow-zero a) ∙ mul_one a
  where
    mul_one : (a : ℕ) → a * 1 ≡ a
    mul_one a = omega arith

-- a^(j+1) + (j+1) a^j is at most (a+1)^(j+1)
first_terms : (a j : ℕ) → a ^ suc j + suc j * a ^ j ≤ suc a ^ suc j
first_terms a zero = omega (arith, pow_one a, pow_one (suc a), pow-zero a)
first_terms a (suc j) =
    let x : ℕ = a ^ suc j in
    let y : ℕ = suc a ^ suc j in
    omega (
      arith,
      pow-succ' a (suc j),
      pow-succ' (suc a) (suc j),
      mul-le-mul_left (suc a) (first_terms a j),
      mul-add (suc a) (a ^ suc j) (suc j * a ^ j),
      add-mul a 1 (a ^ suc j),
      add-mul a 1 (suc j * a ^ j),
      sym (mul_assoc a (suc j) (a ^ j)) ∙ ap (λ (u : ℕ). u * a ^ j) (mul_comm a (suc j)) ∙ mul_assoc (suc j) a (a ^ j)
          ∙ ap (λ (u : ℕ). suc j * u) (sym (pow-succ' a j)),
      add-mul (suc j) 1 (a ^ suc j),
    )

-- (a+1)^(j+1) - a^(j+1) is at most j+1 times the mean of a^j and (a+1)^j
trapezoid : (a j : ℕ) → 2 * suc a ^ suc j ≤ 2 * a ^ suc j + suc j * (a ^ j + suc a ^ j)
trapezoid a zero = omega (arith, pow_one a, pow_one (suc a), pow-zero a, pow-zero (suc a))
trapezoid a (suc j) =
    omega (
      arith,
      pow-succ' a (suc j),
      pow-succ' (suc a) (suc j),
      mul-le-mul_left (suc a) (trapezoid a j),
      by_two (suc a) (suc a ^ suc j),
      mul-add (suc a) (2 * a ^ suc j) (suc j * (a ^ j + suc a ^ j)),
      by_two (suc a) (a ^ suc j),
      add-mul a 1 (a ^ suc j),
      through,
      first_terms a j,
      mul-add (suc j) (a ^ suc j) (suc a ^ suc j),
      mul-add (suc (suc j)) (a ^ suc j) (suc a ^ suc j),
      add-mul (suc j) 1 (a ^ suc j),
      add-mul (suc j) 1 (suc a ^ suc j),
    )
  where
    by_two : (c x : ℕ) → c * (2 * x) ≡ 2 * (c * x)
    by_two c x = sym (mul_assoc c 2 x) ∙ ap (λ (u : ℕ). u * x) (mul_comm c 2) ∙ mul_assoc 2 c x

    -- (a+1) (j+1) (a^j + (a+1)^j) is (j+1) (a^(j+1) + a^j + (a+1)^(j+1))
    through : suc a * (suc j * (a ^ j + suc a ^ j)) ≡ suc j * a ^ suc j + suc j * a ^ j + suc j * suc a ^ suc j
    through = sym (mul_assoc (suc a) (suc j) (a ^ j + suc a ^ j))
        ∙ ap (λ (u : ℕ). u * (a ^ j + suc a ^ j)) (mul_comm (suc a) (suc j))
        ∙ mul_assoc (suc j) (suc a) (a ^ j + suc a ^ j)
        ∙ ap (λ (u : ℕ). suc j * u) inner
        ∙ omega (
          arith,
          mul-add (suc j) (a ^ suc j + a ^ j) (suc a ^ suc j),
          mul-add (suc j) (a ^ suc j) (a ^ j),
        )
      where
        inner : suc a * (a ^ j + suc a ^ j) ≡ a ^ suc j + a ^ j + suc a ^ suc j
        inner = omega (
          arith,
          mul-add (suc a) (a ^ j) (suc a ^ j),
          add-mul a 1 (a ^ j),
          pow-succ' a j,
          pow-succ' (suc a) j,
        )

sum_powers : (n j : ℕ) → 2 * n ^ suc j ≤ 2 * (suc j * powers n j) + suc j * n ^ j
sum_powers zero j = omega (arith, pow-succ' 0 j)
sum_powers (suc n) j =
    omega (
      arith,
      trapezoid n j,
      sum_powers n j,
      mul-add (suc j) (n ^ j) (suc n ^ j),
      mul-add (suc j) (powers n j) (n ^ j),
    )

pub at_least_half_elect : AtLeastHalfElect
at_least_half_elect n zero one low = absurd (omega arith)
at_least_half_elect n (suc j) one low =
    omega (
      arith,
      sum_powers n j,
      mul-le-mul_right (n ^ j) low,
      pow-succ' n j,
      ap (λ (x : ℕ). 2 * x) (ways_to_elect n j),
    )

pub half_is_sharp : HalfIsSharp
half_is_sharp = (refl, refl)
