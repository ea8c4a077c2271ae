-- Sums of which the last u64 stands for itself and everything above.
use Rattle.std.proofs.Common.{◌≡◌, ◌∙◌, ℕ, ◌+◌, ◌-◌, ◌^◌, ◌<◌, List, Some, ap, arith, get_or, length, min, sym, take}
use Rattle.std.specs.Prelude.{slice_get}
use Rattle.std.specs.List.{sum_by}
use Rattle.std.proofs.lemmas.List.Sums.{sum_by_more}
use Rattle.std.proofs.lemmas.Option.{get_or_from_slice_get, slice_get_within}
use Rattle.ira_view_moment.specs.Totals.{capped_sum}

capped_again : (n s x y : ℕ) → n ≡ min s (2 ^ 64 - 1) → y ≡ s + x → min (n + x) (2 ^ 64 - 1) ≡ min y (2 ^ 64 - 1)
capped_again n s x y is more = omega arith

pub capped_more : {X : Type 0} (f : X → ℕ) (xs : List X) (i : ℕ) (d : X) (n : ℕ) → i < length xs
    → n ≡ capped_sum f (take i xs) → min (n + f (get_or xs i d)) (2 ^ 64 - 1) ≡ capped_sum f (take (i + 1) xs)
capped_more f xs i d n l is =
    capped_again n (sum_by f (take i xs)) (f (get_or xs i d)) (sum_by f (take (i + 1) xs)) is (sum_by_more f xs i d l)

pub capped_at : {X : Type 0} (f : X → ℕ) (xs : List X) (i : ℕ) (x : X) (n : ℕ) → slice_get xs i ≡ Some x
    → n ≡ capped_sum f (take i xs) → min (n + f x) (2 ^ 64 - 1) ≡ capped_sum f (take (i + 1) xs)
capped_at f xs i x n at is =
    let same = get_or_from_slice_get xs i x x at in
    ap (λ y. min (n + f y) (2 ^ 64 - 1)) (sym same) ∙ capped_more f xs i x n (slice_get_within xs i x at) is
