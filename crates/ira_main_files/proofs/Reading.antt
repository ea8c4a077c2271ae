-- A text that is read piece by piece, and how many reads it takes.
use Rattle.std.proofs.Common.{◌≡◌, ℕ, ◌+◌, ◌≤◌, ◌<◌, Bool, true, false, List, ◌++◌, Option, take, drop, length, min}
use Rattle.std.proofs.Common.{cond, refl, sym, ap, subst, ◌∙◌, arith}
use Rattle.std.proofs.lemmas.List.{length-take, length-drop}
use Rattle.std.proofs.Math.Seq.{take-add}
use Rattle.std.proofs.KnownBytes.{Consumes-trans}
use Rattle.std.specs.Io.KnownBytes.{Consumes}

-- a text that was filled up to f is filled with the n bytes after
pub filled_more : (a b c : Option (List ℕ)) (xs ys : List ℕ) (f n : ℕ) → take f ys ≡ take f xs
    → Consumes a b (take f xs) → Consumes b c (take n (drop f ys)) → Consumes a c (take (f + n) ys)
filled_more a b c xs ys f n front before read =
    subst (Consumes a c) (sym (take-add f n ys ∙ ap (λ w. w ++ take n (drop f ys)) front))
    (Consumes-trans a b c _ _ before read)

pub length-taken : (ys : List ℕ) (f n : ℕ) → f + n ≤ length ys → length (take n (drop f ys)) ≡ n
length-taken ys f n h =
    length-take n (drop f ys) ∙ ap (min n) (length-drop f ys) ∙ omega (arith, h)

-- a read that gives no byte is the last
pub reads_left : (over : Bool) (r s n : ℕ) → s ≤ r + 1 → (over ≡ false → 0 < n) → s + cond over 0 1 ≤ r + 1 + n
reads_left true r s n h p = omega (arith, h)
reads_left false r s n h p = omega (arith, h, p refl)
