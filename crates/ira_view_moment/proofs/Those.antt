-- Those of which something holds, one more at a time.
use Rattle.std.proofs.Common.{◌≡◌, ℕ, ◌+◌, ◌<◌, ◌⊎◌, inl, inr, List, [], ◌∷◌, ◌++◌, subst, arith}
use Rattle.std.specs.Prelude.{◌↔◌, Contains}
use Rattle.std.proofs.lemmas.Bool.{cases_lt}
use Rattle.std.proofs.lemmas.List.Elements.{Contains-append_left, Contains-push, Contains-push_cases}
use Rattle.std.proofs.lemmas.Option.{get_or_from_slice_get, slice_get_within}
use Rattle.ira_order.proofs.Pushed.{rises_pushed}
use Rattle.ira_view_moment.specs.Those.{AreThose, AreThosePlaces}

pub none_those : {X : Type 0} {number : X → ℕ} {P : X → Type 0} → ((x : X) → P x → ⊥) → AreThose number P []
none_those never = record {
  rise = λ k h x y less at there. absurd cc;
  those = λ x. (λ c. absurd (omega (arith, c.1)), λ p. absurd (never x p));
}

pub those_same : {X : Type 0} {number : X → ℕ} {P Q : X → Type 0} {xs : List X} → ((x : X) → P x ↔ Q x)
    → AreThose number P xs → AreThose number Q xs
those_same same are = record {
  rise = are.rise;
  those = λ x. (λ c. (same x).0 ((are.those x).0 c), λ q. (are.those x).1 ((same x).1 q));
}

pub those_more : {X : Type 0} {number : X → ℕ} {P Q : X → Type 0} (xs : List X) (new : X)
    → ((x : X) → P x → number x < number new) → ((x : X) → (P x ⊎ (new ≡ x)) ↔ Q x) → AreThose number P xs
    → AreThose number Q (xs ++ new ∷ [])
those_more {number = number} xs new below more are = record {
  rise = rises_pushed number xs new are.rise
      (λ k y at. below y ((are.those y).0 (k, slice_get_within xs k y at, get_or_from_slice_get xs k y y at)));
  those = λ x. (
    λ c. elim (Contains-push_cases xs new x c) [
      | inl old ↦ (more x).0 (inl ((are.those x).0 old))
      | inr e ↦ (more x).0 (inr e)
    ],
    λ q. elim ((more x).1 q) [
      | inl old ↦ Contains-append_left xs (new ∷ []) x ((are.those x).1 old)
      | inr e ↦ subst (Contains (xs ++ new ∷ [])) e (Contains-push xs new)
    ],
  );
}

-- those of the places below a number, and one place more
pub place_more : (P : ℕ → Type 0) (n : ℕ) (places : List ℕ) → P n → AreThosePlaces (λ i. (i < n) × P i) places
    → AreThosePlaces (λ i. (i < n + 1) × P i) (places ++ n ∷ [])
place_more P n places here = those_more {P = λ i. (i < n) × P i} places n (λ i p. p.0) (λ i. (
  λ h. elim h [
    | inl p ↦ (let low = p.0 in omega (arith, low), p.1)
    | inr e ↦ (omega (arith, e), subst P e here)
  ],
  λ p. elim (cases_lt i n) [ inl less ↦ inl (less, p.1) | inr last ↦ inr (let low = p.0 in omega (arith, low, last)) ],
))

pub place_over : (P : ℕ → Type 0) (n : ℕ) (places : List ℕ) → ¬ (P n) → AreThosePlaces (λ i. (i < n) × P i) places
    → AreThosePlaces (λ i. (i < n + 1) × P i) places
place_over P n places never = those_same {P = λ i. (i < n) × P i} (λ i. (
  λ p. (let low = p.0 in omega (arith, low), p.1),
  λ p. elim (cases_lt i n) [
    | inl less ↦ (less, p.1)
    | inr last ↦ absurd (never (let low = p.0 in let is : i ≡ n = omega (arith, low, last) in subst P is p.1))
  ],
))
