-- Numbers in a row, and lists made of them.
use Rattle.std.proofs.Common.{◌≡◌, ◌<◌, ◌≤◌, ℕ, zero, suc, ◌+◌, ◌-◌, List, [], ◌∷◌, ◌++◌, map, refl, sym, ap}
use Rattle.std.proofs.Common.{subst, arith, ◌∙◌, append_assoc, inl, inr}
use Rattle.std.specs.Prelude.{All, Contains}
use Rattle.std.specs.List.{flat_map}
use Rattle.std.proofs.lemmas.List.Elements.{All-nil, All-cons, All-head, All-tail, All-append, All-contains}
use Rattle.std.proofs.lemmas.List.Elements.{Contains-append_left, Contains-append_right}
use Rattle.ira_pred.specs.Pairs.{numbers_from}
use Rattle.ira_pred.proofs.PairCases.{next-number}
use Rattle.ira_pred.proofs.Walks.{All-back}
use Rattle.ira_pred.proofs.PairOrder.{at_or_above}

pub All-map_numbers : {X : Type 0} (P : X → Type 0) (f : ℕ → X) (i k : ℕ)
    → ((m : ℕ) → i ≤ m → m < i + k → P (f m)) → All P (map f (numbers_from i k))
All-map_numbers P f i zero h = All-nil P
All-map_numbers P f i (suc k) h =
    All-cons P (f i) _ (h i (omega arith) (omega arith))
    (All-map_numbers P f (i + 1) k (λ m low high. h m (omega arith) (omega arith)))

pub All-flat_numbers : {X : Type 0} (P : X → Type 0) (f : ℕ → List X) (i k : ℕ)
    → ((m : ℕ) → i ≤ m → m < i + k → All P (f m)) → All P (flat_map f (numbers_from i k))
All-flat_numbers P f i zero h = All-nil P
All-flat_numbers P f i (suc k) h =
    All-append P (f i) (flat_map f (numbers_from (i + 1) k)) (h i (omega arith) (omega arith))
    (All-flat_numbers P f (i + 1) k (λ m low high. h m (omega arith) (omega arith)))

pub All-left : {X : Type 0} (P : X → Type 0) (xs ys : List X) → All P (xs ++ ys) → All P xs
All-left P [] ys h = All-nil P
All-left P (x ∷ xs) ys h = All-cons P x xs (All-head P x (xs ++ ys) h) (All-left P xs ys (All-tail P x (xs ++ ys) h))

pub each_flat_number : {X : Type 0} (P : X → Type 0) (f : ℕ → List X) (i k : ℕ) → All P (flat_map f (numbers_from i k))
    → (m : ℕ) → i ≤ m → m < i + k → All P (f m)
each_flat_number P f i zero h m low high = absurd (omega (arith, low, high))
each_flat_number P f i (suc k) h m low high =
    elim (at_or_above i m low) [
      | inl e ↦ subst (λ x. All P (f x)) e (All-left P (f i) (flat_map f (numbers_from (i + 1) k)) h)
      | inr later ↦
          each_flat_number P f (i + 1) k (All-back P (f i) (flat_map f (numbers_from (i + 1) k)) h) m later
          (omega (arith, high))
    ]

pub Contains-map_numbers : {X : Type 0} (f : ℕ → X) (i k m : ℕ) → i ≤ m → m < i + k
    → Contains (map f (numbers_from i k)) (f m)
Contains-map_numbers f i zero m low high = absurd (omega (arith, low, high))
Contains-map_numbers f i (suc k) m low high =
    elim (at_or_above i m low) [
      | inl e ↦ (0, omega arith, ap f e)
      | inr later ↦
          Contains-append_right (f i ∷ []) _ (f m) (Contains-map_numbers f (i + 1) k m later (omega (arith, high)))
    ]

pub Contains-flat_numbers : {X : Type 0} (f : ℕ → List X) (i k m : ℕ) (x : X) → i ≤ m → m < i + k → Contains (f m) x
    → Contains (flat_map f (numbers_from i k)) x
Contains-flat_numbers f i zero m x low high c = absurd (omega (arith, low, high))
Contains-flat_numbers f i (suc k) m x low high c =
    elim (at_or_above i m low) [
      | inl e ↦ Contains-append_left (f i) (flat_map f (numbers_from (i + 1) k)) x (subst (λ y. Contains (f y) x)
          (sym e) c)
      | inr later ↦
          Contains-append_right (f i) (flat_map f (numbers_from (i + 1) k)) x
          (Contains-flat_numbers f (i + 1) k m x later (omega (arith, high)) c)
    ]

pub Contains-mapped : {X Y : Type 0} (f : X → Y) (xs : List X) (x : X) → Contains xs x → Contains (map f xs) (f x)
Contains-mapped f [] x (k, l, e) = absurd (omega (arith, l))
Contains-mapped f (y ∷ ys) x (zero, l, e) = (0, omega arith, ap f e)
Contains-mapped f (y ∷ ys) x (suc k, l, e) =
    Contains-append_right (f y ∷ []) (map f ys) (f x) (Contains-mapped f ys x (k, omega (arith, l), e))

-- an element of a mapped list is one of the list, mapped
abbrev pub IsMapped : {X Y : Type 0} → (X → Y) → List X → Y → Type 0
IsMapped {X} f xs y = (x : X) × Contains xs x × (y ≡ f x)

all_mapped : {X Y : Type 0} (f : X → Y) (xs : List X) → All (IsMapped f xs) (map f xs)
all_mapped f [] = All-nil (IsMapped f [])
all_mapped {X} f (y ∷ ys) =
    All-cons (IsMapped f (y ∷ ys)) (f y) (map f ys) (y, (0, omega arith, refl), refl)
    (All-weaker (IsMapped f ys) (IsMapped f (y ∷ ys)) (λ z h. (h.0, Contains-append_right (y ∷ []) ys h.0 h.1, h.2))
    (map f ys) (all_mapped f ys))
  where
    All-weaker : {Z : Type 0} (P Q : Z → Type 0) → ((z : Z) → P z → Q z) → (zs : List Z) → All P zs → All Q zs
    All-weaker P Q h [] a = All-nil Q
    All-weaker P Q h (z ∷ zs) a = All-cons Q z zs (h z (All-head P z zs a)) (All-weaker P Q h zs (All-tail P z zs a))

pub Contains-of_map : {X Y : Type 0} (f : X → Y) (xs : List X) (y : Y) → Contains (map f xs) y → IsMapped f xs y
Contains-of_map f xs y c = All-contains (IsMapped f xs) (map f xs) y (all_mapped f xs) c

-- ---- a list that is made number by number

pub next_mapped : {X : Type 0} (f : ℕ → X) (i n : ℕ) (old new : List X) → i < n → new ≡ old ++ f i ∷ []
    → new ++ map f (numbers_from (i + 1) (n - (i + 1))) ≡ old ++ map f (numbers_from i (n - i))
next_mapped f i n old new low e =
    ap (λ x. x ++ map f (numbers_from (i + 1) (n - (i + 1)))) e
    ∙ append_assoc old (f i ∷ []) (map f (numbers_from (i + 1) (n - (i + 1))))
    ∙ ap (λ x. old ++ map f x) (sym (next-number i n low))

pub next_piece : {X : Type 0} (f : ℕ → List X) (i n : ℕ) (old new : List X) → i < n → new ≡ old ++ f i
    → new ++ flat_map f (numbers_from (i + 1) (n - (i + 1))) ≡ old ++ flat_map f (numbers_from i (n - i))
next_piece f i n old new low e =
    ap (λ x. x ++ flat_map f (numbers_from (i + 1) (n - (i + 1)))) e
    ∙ append_assoc old (f i) (flat_map f (numbers_from (i + 1) (n - (i + 1))))
    ∙ ap (λ x. old ++ flat_map f x) (sym (next-number i n low))
