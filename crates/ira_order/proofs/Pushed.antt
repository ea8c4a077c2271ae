-- Members of a list with one more at its end.
use Rattle.std.proofs.Common.{◌≡◌, ℕ, zero, suc, ◌⊎◌, inl, inr, List, [], ◌∷◌, ◌++◌, Some, length, refl, ap, arith}
use Rattle.std.proofs.Common.{◌<◌, subst, sym}
use Rattle.std.specs.Prelude.{slice_get}
use Rattle.std.proofs.lemmas.Option.{slice_get_within}
use Rattle.ira_order.specs.FaultyEvent.{Rises}

pub pushed_cases : {X : Type 0} → (xs : List X) (x y : X) (j : ℕ) → slice_get (xs ++ x ∷ []) j ≡ Some y
    → (slice_get xs j ≡ Some y) ⊎ ((j ≡ length xs) × (x ≡ y))
pushed_cases [] x y zero h = inr (refl, cc)
pushed_cases [] x y (suc j) h = absurd cc
pushed_cases (z ∷ zs) x y zero h = inl h
pushed_cases (z ∷ zs) x y (suc j) h = elim (pushed_cases zs x y j h) [
  | inl old ↦ inl old
  | inr new ↦ inr (ap suc new.0, new.1)
]

pub pushed_old : {X : Type 0} → (xs : List X) (x y : X) (j : ℕ) → slice_get xs j ≡ Some y
    → slice_get (xs ++ x ∷ []) j ≡ Some y
pushed_old [] x y j h = absurd cc
pushed_old (z ∷ zs) x y zero h = h
pushed_old (z ∷ zs) x y (suc j) h = pushed_old zs x y j h

pub pushed_last : {X : Type 0} → (xs : List X) (x : X) → slice_get (xs ++ x ∷ []) (length xs) ≡ Some x
pushed_last [] x = refl
pushed_last (z ∷ zs) x = pushed_last zs x

-- what holds of each, and of the new one, holds of each
pub each_pushed : {X : Type 0} → (P : ℕ → X → Type 0) (xs : List X) (n : ℕ) (x : X) → length xs ≡ n
    → ((j : ℕ) (y : X) → slice_get xs j ≡ Some y → P j y) → P n x → (j : ℕ) (y : X)
    → slice_get (xs ++ x ∷ []) j ≡ Some y → P j y
each_pushed P xs n x many before here j y h = elim (pushed_cases xs x y j h) [
  | inl old ↦ before j y old
  | inr new ↦
      let same : n ≡ j = omega (arith, many, new.0) in
      subst (λ k. P k y) same (subst (P n) new.1 here)
]

-- numbers that rise go on rising where each is below that of the new one
pub rises_pushed : {X : Type 0} → (number : X → ℕ) (xs : List X) (x : X) → Rises number xs
    → ((k : ℕ) (y : X) → slice_get xs k ≡ Some y → number y < number x) → Rises number (xs ++ x ∷ [])
rises_pushed number xs x rise below k h y z less at there = elim (pushed_cases xs x z h there) [
  | inl old ↦ elim (pushed_cases xs x y k at) [
    | inl early ↦ rise k h y z less early old
    | inr new ↦ absurd (omega (arith, less, new.0, slice_get_within xs h z old))
  ]
  | inr new ↦ elim (pushed_cases xs x y k at) [
    | inl early ↦ subst (λ v. number y < number v) new.1 (below k y early)
    | inr same ↦ absurd (omega (arith, less, new.0, same.0))
  ]
]

-- the same as pushed_cases, the other way round
pub found_in_push : {X : Type 0} (xs : List X) (x : X) (k : ℕ) (y : X) → slice_get (xs ++ x ∷ []) k ≡ Some y
    → (slice_get xs k ≡ Some y) ⊎ ((length xs ≡ k) × (x ≡ y))
found_in_push xs x k y at = elim (pushed_cases xs x y k at) [ inl old ↦ inl old | inr new ↦ inr (sym new.0, new.1) ]
