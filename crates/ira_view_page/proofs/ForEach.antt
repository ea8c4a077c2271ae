-- One for each of the first of a list.
use Rattle.std.proofs.Common.{◌≡◌, ℕ, ◌+◌, ◌≤◌, List, [], ◌∷◌, ◌++◌, Some, arith, length, refl, subst, sym}
use Rattle.std.specs.Prelude.{slice_get}
use Rattle.std.proofs.lemmas.List.{length_push}
use Rattle.std.proofs.lemmas.Option.{slice_get_within}
use Rattle.ira_order.proofs.Pushed.{each_pushed}
use Rattle.ira_view_page.specs.Parts.{AreOneForEach}

-- one for each of the first n
pub record AreSoFar {X Y : Type 0} (P : ℕ → X → Y → Type 0) (xs : List X) (n : ℕ) (ys : List Y) : Type 0 where
  pub within : n ≤ length xs
  pub count : length ys ≡ n
  pub each : (i : ℕ) (x : X) (y : Y) → slice_get xs i ≡ Some x → slice_get ys i ≡ Some y → P i x y

pub none_so_far : {X Y : Type 0} (P : ℕ → X → Y → Type 0) (xs : List X) → AreSoFar P xs 0 []
none_so_far P xs = record { within = omega arith; count = refl; each = λ i x y at none. absurd cc }

-- one more
pub one_more : {X Y : Type 0} (P : ℕ → X → Y → Type 0) (xs : List X) (n : ℕ) (ys all : List Y) (x : X) (y : Y)
    → slice_get xs n ≡ Some x → AreSoFar P xs n ys → P n x y → all ≡ ys ++ y ∷ [] → AreSoFar P xs (n + 1) all
one_more {X} {Y} P xs n ys all x y there before is same =
    subst (λ (zs : List Y). AreSoFar P xs (n + 1) zs) (sym same) (record {
      within = omega (arith, slice_get_within xs n x there);
      count = omega (arith, length_push ys y, before.count);
      each = λ i w z at_i of_i.
          each_pushed (λ (j : ℕ) (v : Y). (u : X) → slice_get xs j ≡ Some u → P j u v) ys n y before.count
          (λ j v of_j u at_j. before.each j u v at_j of_j) here i z of_i w at_i;
    })
  where
    here : (u : X) → slice_get xs n ≡ Some u → P n u y
    here u at_n = (let one : x ≡ u = cc in subst (λ (v : X). P n v y) one is)

-- there is one for each
pub all_are : {X Y : Type 0} (P : ℕ → X → Y → Type 0) (xs : List X) (n : ℕ) (ys : List Y) → length xs ≤ n
    → AreSoFar P xs n ys → AreOneForEach P xs ys
all_are P xs n ys past are = record { count = omega (arith, past, are.within, are.count); each = are.each }
