-- Rising lists of numbers.
use Rattle.std.proofs.Common.{◌≡◌, ℕ, zero, suc, ◌+◌, ◌<◌, ◌≤◌, ◌↔◌, true, List, [], ◌∷◌, Contains, Option, Some, None}
use Rattle.std.proofs.Common.{is_some, MatchOption, refl, sym, subst, arith}
use Rattle.std.specs.List.Sorted.{IsStrictlyIncreasing}
use Rattle.std.proofs.lemmas.List.Kept.{AllPairs-from_increasing}
use Rattle.std.proofs.lemmas.Map.Made.{Contains-tail}
use Rattle.ira_cand.specs.Ahead.{with_front}

-- after the first number of a rising list the others rise
pub rises_after : (x : ℕ) (xs : List ℕ) → IsStrictlyIncreasing (x ∷ xs) → IsStrictlyIncreasing xs
rises_after x xs h k l = AllPairs-from_increasing (x ∷ xs) h (suc k) (suc (k + 1)) 0 (omega arith) (omega arith)

-- and are above it
pub above_first : (x : ℕ) (xs : List ℕ) (a : ℕ) → IsStrictlyIncreasing (x ∷ xs) → Contains xs a → x < a
above_first x xs a h c = subst (λ y. x < y) c.2
    (AllPairs-from_increasing (x ∷ xs) h 0 (suc c.0) a (omega arith) (omega (arith, c.1)))

pub contains_after : (x : ℕ) (xs : List ℕ) (a : ℕ) → Contains xs a → Contains (x ∷ xs) a
contains_after x xs a c = (suc c.0, omega (arith, c.1), c.2)

pub contains_first : (x : ℕ) (xs : List ℕ) → Contains (x ∷ xs) x
contains_first x xs = (0, omega arith, refl)

from_first : (x : ℕ) (xs : List ℕ) (a : ℕ) → IsStrictlyIncreasing (x ∷ xs) → Contains (x ∷ xs) a → x ≤ a
from_first x xs a h (zero, l, e) = omega (arith, e)
from_first x xs a h (suc k, l, e) = let r : x < a = above_first x xs a h (k, omega (arith, l), e) in omega arith

to_after : (x y : ℕ) (xs ys : List ℕ) (a : ℕ) → x ≡ y → IsStrictlyIncreasing (x ∷ xs)
    → (Contains (x ∷ xs) a → Contains (y ∷ ys) a) → Contains xs a → Contains ys a
to_after x y xs ys a e h to c =
    let r : x < a = above_first x xs a h c in
    Contains-tail y ys a (λ s. omega arith) (to (contains_after x xs a c))

-- rising lists with the same members are one
pub same_rising : (xs ys : List ℕ) → IsStrictlyIncreasing xs → IsStrictlyIncreasing ys
    → ((a : ℕ) → Contains xs a ↔ Contains ys a) → xs ≡ ys
same_rising [] [] h k same = refl
same_rising [] (y ∷ ys) h k same = let c : Contains [] y = (same y).1 (contains_first y ys) in
    absurd (omega (arith, c.1))
same_rising (x ∷ xs) [] h k same = let c : Contains [] x = (same x).0 (contains_first x xs) in
    absurd (omega (arith, c.1))
same_rising (x ∷ xs) (y ∷ ys) h k same =
    let a : y ≤ x = from_first y ys x k ((same x).0 (contains_first x xs)) in
    let b : x ≤ y = from_first x xs y h ((same y).1 (contains_first y ys)) in
    let e : x ≡ y = omega arith in
    let rest : xs ≡ ys = same_rising xs ys (rises_after x xs h) (rises_after y ys k) (λ q. (
      to_after x y xs ys q e h (same q).0,
      to_after y x ys xs q (sym e) k (same q).1,
    )) in
    rw (e, rest) refl

-- a rising list rises on once its first number, which was taken out already, makes way for the next
pub rises_on : (front next : Option ℕ) (rest later : List ℕ) → is_some front ≡ true
    → IsStrictlyIncreasing (with_front front rest)
    → MatchOption next ((rest ≡ []) × (later ≡ [])) (λ x. rest ≡ x ∷ later)
    → IsStrictlyIncreasing (with_front next later)
rises_on None next rest later some h e = cc
rises_on (Some x) None rest later some h e = λ k l. absurd (omega (arith, l))
rises_on (Some x) (Some y) rest later some h e = subst IsStrictlyIncreasing e (rises_after x rest h)
