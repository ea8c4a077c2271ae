-- What a skip to a position removes from a rising list, and what it keeps.
use Rattle.std.proofs.Common.{◌≡◌, ℕ, ◌<◌, ◌≤◌, List, [], ◌∷◌, true, nat_le, Some, None, slice_get, filter, drop}
use Rattle.std.proofs.Common.{length, refl, ap, arith}
use Rattle.std.specs.List.Sorted.{IsStrictlyIncreasing}
use Rattle.std.proofs.lemmas.Bool.Decides.{nat_tests}
use Rattle.ira_cand.proofs.Rising.{rises_after}

le_true : (p x : ℕ) → p ≤ x → nat_le p x ≡ true
le_true p x h = grind (arith, nat_tests)

all_kept : (p x : ℕ) (xs : List ℕ) → p ≤ x → IsStrictlyIncreasing (x ∷ xs) → filter (nat_le p) (x ∷ xs) ≡ x ∷ xs
all_kept p x [] h r = rw (le_true p x h) refl
all_kept p x (y ∷ ys) h r =
    let up : x < y = r 0 (omega arith) in
    rw (le_true p x h) (ap (λ zs. x ∷ zs) (all_kept p y ys (omega arith) (rises_after x (y ∷ ys) r)))

-- where the first is p or more, nothing is removed
pub kept_from_first : (p x : ℕ) (xs : List ℕ) → slice_get xs 0 ≡ Some x → p ≤ x → IsStrictlyIncreasing xs
    → filter (nat_le p) xs ≡ xs
kept_from_first p x [] e h r = refl
kept_from_first p x (y ∷ ys) e h r =
    let same : y ≡ x = cc in
    all_kept p y ys (omega arith) r

pub nothing_left : (xs : List ℕ) → slice_get xs 0 ≡ None → xs ≡ []
nothing_left [] e = refl
nothing_left (x ∷ xs) e = cc

pub shorter : (x : ℕ) (xs : List ℕ) → slice_get xs 0 ≡ Some x → length (drop 1 xs) < length xs
shorter x [] e = cc
shorter x (y ∷ ys) e = omega arith
