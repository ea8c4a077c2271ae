-- Bytes that no lane of two vectors tells apart are the same.
use Rattle.std.proofs.Common.{◌≡◌, ◌≤◌, ℕ, ◌+◌, ◌*◌, ◌%◌, ◌-◌, Bool, true, false, cond, not, List, [], ◌∷◌, ◌++◌}
use Rattle.std.proofs.Common.{length, map, take, drop, refl, sym, ap, ap₂, ◌∙◌, arith, inl, inr, eqb, bit_or, nat_eq, IsTrue}
use Rattle.std.proofs.lemmas.Bool.Decides.{nat_tests}
use Rattle.std.proofs.lemmas.Bool.{cases_eq, ne_eqb}
use Rattle.std.proofs.lemmas.Simd.{length-zip2, mask_l-mod}
use Rattle.std.proofs.lemmas.List.{length-map, take-take}
use Rattle.std.proofs.Math.Seq.{take-add}
use lib.Lanes.{mask_l, top, zip2}

mask-cons : (b : Bool) (m : ℕ) → cond b 1 0 + 2 * m ≡ 0 → (b ≡ false) × (m ≡ 0)
mask-cons true m e = absurd (omega (arith, e))
mask-cons false m e = (refl, omega (arith, e))

-- all ones where two lanes differ
abbrev unlike : ℕ → ℕ → ℕ
unlike a b = cond (not (eqb a b)) 255 0

alike : (a b : ℕ) → not (eqb a b) ≡ false → a ≡ b
alike a b e = elim (cases_eq a b) [
  | inl same ↦ same
  | inr other ↦ let set : not (eqb a b) ≡ true = ap not (ne_eqb a b other) in cc
]

both_alike : (x y : Bool) → top 7 (bit_or (cond x 255 0) (cond y 255 0)) ≡ false → (x ≡ false) × (y ≡ false)
both_alike true true none = absurd cc
both_alike true false none = absurd cc
both_alike false true none = absurd cc
both_alike false false none = (refl, refl)

-- which lanes of two pairs of vectors differ in one pair or the other
abbrev unlike_lanes : List ℕ → List ℕ → List ℕ → List ℕ → List Bool
unlike_lanes xs bs cs ds = map (top 7) (zip2 bit_or (zip2 unlike xs bs) (zip2 unlike cs ds))

none_unlike : (xs bs cs ds : List ℕ) → length xs ≡ length bs → length xs ≡ length cs → length xs ≡ length ds
    → mask_l (unlike_lanes xs bs cs ds) ≡ 0 → (xs ≡ bs) × (cs ≡ ds)
none_unlike [] [] [] [] p q r none = (refl, refl)
none_unlike [] [] [] (d ∷ ds) p q r none = absurd (omega (arith, r))
none_unlike [] [] (c ∷ cs) ds p q r none = absurd (omega (arith, q))
none_unlike [] (b ∷ bs) cs ds p q r none = absurd (omega (arith, p))
none_unlike (a ∷ xs) [] cs ds p q r none = absurd (omega (arith, p))
none_unlike (a ∷ xs) (b ∷ bs) [] ds p q r none = absurd (omega (arith, q))
none_unlike (a ∷ xs) (b ∷ bs) (c ∷ cs) [] p q r none = absurd (omega (arith, r))
none_unlike (a ∷ xs) (b ∷ bs) (c ∷ cs) (d ∷ ds) p q r none =
    let parts = mask-cons (top 7 (bit_or (unlike a b) (unlike c d))) (mask_l (unlike_lanes xs bs cs ds)) none in
    let first = both_alike (not (eqb a b)) (not (eqb c d)) parts.0 in
    let rest = none_unlike xs bs cs ds (omega (arith, p)) (omega (arith, q)) (omega (arith, r)) parts.1 in
    (ap₂ (λ z zs. z ∷ zs) (alike a b first.0) rest.0, ap₂ (λ z zs. z ∷ zs) (alike c d first.1) rest.1)

is_zero : (n : ℕ) → IsTrue (nat_eq n 0) → n ≡ 0
is_zero n zero = grind (arith, nat_tests, zero)

-- two pairs of vectors of which no lane differs
pub same_lanes : (xs bs cs ds : List ℕ) → length xs ≡ 16 → length bs ≡ 16 → length cs ≡ 16 → length ds ≡ 16
    → IsTrue (nat_eq (mask_l (unlike_lanes xs bs cs ds) % 18446744073709551616) 0) → (xs ≡ bs) × (cs ≡ ds)
same_lanes xs bs cs ds p q r s zero =
    let first = length-zip2 unlike xs bs (p ∙ sym q) in
    let both = length-zip2 bit_or (zip2 unlike xs bs) (zip2 unlike cs ds)
    (first ∙ p ∙ sym (length-zip2 unlike cs ds (r ∙ sym s) ∙ r)) in
    let long : length (unlike_lanes xs bs cs ds) ≤ 64 =
    omega (arith, length-map (zip2 bit_or (zip2 unlike xs bs) (zip2 unlike cs ds)) (top 7), both, first, p) in
    none_unlike xs bs cs ds (p ∙ sym q) (p ∙ sym r) (p ∙ sym s) (sym (mask_l-mod (unlike_lanes xs bs cs ds) 64 long) ∙ is_zero _ zero)

-- two lists whose first 16 bytes are the same, and the 16 that end at this place, up to which they have no more than 32
pub ends_meet : (xs ys : List ℕ) (len : ℕ) → 16 ≤ len → len ≤ 32 → take 16 xs ≡ take 16 ys
    → take 16 (drop (len - 16) xs) ≡ take 16 (drop (len - 16) ys) → take len xs ≡ take len ys
ends_meet xs ys len least most front back =
    let m = len - 16 in
    let whole : m + 16 ≡ len = omega arith in
    let split : (zs : List ℕ) → take len zs ≡ take m (take 16 zs) ++ take 16 (drop m zs) =
    λ zs. ap (λ k. take k zs) (sym whole) ∙ take-add m 16 zs
    ∙ ap (λ z. z ++ take 16 (drop m zs)) (sym (take-take m 16 zs (omega arith))) in
    split xs ∙ ap₂ (λ a b. take m a ++ b) front back ∙ sym (split ys)
