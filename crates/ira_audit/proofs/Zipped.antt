-- Two lists of which each member is tied to the one at its place.
use Rattle.std.proofs.Common.{◌≡◌, ◌++◌, ℕ, zero, suc, List, [], ◌∷◌, Some, refl}
use Rattle.std.specs.Prelude.{slice_get}
use Rattle.std.specs.List.{AllZip}
use Rattle.std.proofs.lemmas.Option.{same_Some}

-- what ties two lists ties their members
pub zipped_at : {X Y : Type 0} (R : X → Y → Type 0) (xs : List X) (ys : List Y) (i : ℕ) (x : X) (y : Y) → AllZip R xs ys
    → slice_get xs i ≡ Some x → slice_get ys i ≡ Some y → R x y
zipped_at R [] [] i x y h a b = absurd cc
zipped_at R [] (v ∷ ys) i x y h a b = absurd h
zipped_at R (u ∷ xs) [] i x y h a b = absurd h
zipped_at R (u ∷ xs) (v ∷ ys) zero x y h a b = rw (← same_Some u x a, ← same_Some v y b) h.0
zipped_at R (u ∷ xs) (v ∷ ys) (suc i) x y h a b = zipped_at R xs ys i x y h.1 a b

-- a member has one that it is tied to
pub partner_at : {X Y : Type 0} (xs : List X) (ys : List Y) (i : ℕ) (x : X) (R : X → Y → Type 0) → AllZip R xs ys
    → slice_get xs i ≡ Some x → (y : Y) × (slice_get ys i ≡ Some y)
partner_at [] [] i x R h a = absurd cc
partner_at [] (v ∷ ys) i x R h a = absurd h
partner_at (u ∷ xs) [] i x R h a = absurd h
partner_at (u ∷ xs) (v ∷ ys) zero x R h a = (v, refl)
partner_at (u ∷ xs) (v ∷ ys) (suc i) x R h a = partner_at xs ys i x R h.1 a

-- one member more of each
pub zipped_more : {X Y : Type 0} (R : X → Y → Type 0) (xs : List X) (ys : List Y) (x : X) (y : Y) → AllZip R xs ys
    → R x y → AllZip R (xs ++ x ∷ []) (ys ++ y ∷ [])
zipped_more R [] [] x y h r = (r, tt)
zipped_more R [] (v ∷ ys) x y h r = absurd h
zipped_more R (u ∷ xs) [] x y h r = absurd h
zipped_more R (u ∷ xs) (v ∷ ys) x y h r = (h.0, zipped_more R xs ys x y h.1 r)

-- what ties two lists ties them in another way, where each tie gives the other
pub zipped_into : {X Y : Type 0} (R S : X → Y → Type 0) → ((x : X) (y : Y) → R x y → S x y)
    → (xs : List X) (ys : List Y) → AllZip R xs ys → AllZip S xs ys
zipped_into R S into [] [] h = tt
zipped_into R S into [] (y ∷ ys) h = absurd h
zipped_into R S into (x ∷ xs) [] h = absurd h
zipped_into R S into (x ∷ xs) (y ∷ ys) h = (into x y h.0, zipped_into R S into xs ys h.1)
