-- What is added to pages, rows and tables one after the other.
use Rattle.std.proofs.Common.{◌≡◌, ◌∙◌, ℕ, zero, suc, ◌+◌, ◌≤◌, Bool, List, [], ◌∷◌, ◌++◌, Option, Some, Result}
use Rattle.std.proofs.Common.{Ok, Err, IfOk, add-one, ap, append-nil, append_assoc, arith, get_or, inl, inr}
use Rattle.std.proofs.Common.{length, map, min, nat_eq, refl, subst, sym, take, true, false}
use Rattle.std.specs.Prelude.{slice_get}
use Rattle.std.specs.List.{flat_map, list_any, zip}
use Rattle.std.proofs.lemmas.Bool.Decides.{eqb_tells, nat_tests}
use Rattle.std.proofs.lemmas.Grind.{flat_map-append}
use Rattle.std.proofs.lemmas.List.{take_all, take_more}
use Rattle.std.proofs.lemmas.Option.{get_or_from_slice_get, slice_get_within}
use Rattle.ira_view_show.specs.Listed.{list_text}
use Rattle.ira_view_page.specs.Page.{Added, AddedBy}
use Rattle.ira_view_page.proofs.Adding.{◌&◌, added_as, added_part, holds}

-- nothing was there before
pub began : {X : Type 0} {a b : Option (List X)} {x : List X} → a ≡ Some [] → Added a x b → Added (Some []) x b
began {X} {a} {b} {x} is p = subst (λ (o : Option (List X)). Added o x b) is p

-- a part that holds nothing but these
pub added_whole : {X Y : Type 0} {seen : List Y → List X} {a c : Option (List X)} {e part : Option (List Y)}
    {t : List Y} → e ≡ Some [] → Added e t part → AddedBy seen a part c → Added a (seen t) c
added_whole {X} {Y} {seen} {a} {c} {e} {part} {t} is p q = added_part t (λ all at. holds all is p at) q

-- the text of the next element, which is there
flat_more : {X Y : Type 0} (f : X → List Y) (xs : List X) (i : ℕ) (x : X) → slice_get xs i ≡ Some x
    → flat_map f (take (i + 1) xs) ≡ flat_map f (take i xs) ++ f x
flat_more f xs i x at =
    ap (flat_map f) (take_more xs i x (slice_get_within xs i x at))
    ∙ flat_map-append f (take i xs) (get_or xs i x ∷ [])
    ∙ ap (λ t. flat_map f (take i xs) ++ t)
    (append-nil (f (get_or xs i x)) ∙ ap f (get_or_from_slice_get xs i x x at))

-- the same below others
pub added_below : {X Y : Type 0} {p q r : Option (List Y)} (head : List Y) (f : X → List Y) (xs : List X) (i : ℕ)
    (x : X) → slice_get xs i ≡ Some x → Added p (head ++ flat_map f (take i xs)) q → Added q (f x) r
    → Added p (head ++ flat_map f (take (i + 1) xs)) r
added_below head f xs i x at a b =
    added_as (append_assoc head (flat_map f (take i xs)) (f x) ∙ ap (λ t. head ++ t) (sym (flat_more f xs i x at)))
    (a & b)

-- the element of two lists side by side
pub both_at : {X Y : Type 0} (xs : List X) (ys : List Y) (i : ℕ) (x : X) (y : Y) → slice_get xs i ≡ Some x
    → slice_get ys i ≡ Some y → slice_get (zip xs ys) i ≡ Some (x, y)
both_at [] ys i x y at other = cc
both_at (z ∷ xs) [] i x y at other = cc
both_at (z ∷ xs) (w ∷ ys) zero x y at other = cc
both_at (z ∷ xs) (w ∷ ys) (suc i) x y at other = both_at xs ys i x y at other

pub length-zip-le : {X Y : Type 0} (xs : List X) (ys : List Y) → length (zip xs ys) ≤ length xs
length-zip-le [] ys = omega arith
length-zip-le (x ∷ xs) [] = omega arith
length-zip-le (x ∷ xs) (y ∷ ys) = let less = length-zip-le xs ys in omega arith

not_first : (i : ℕ) → nat_eq (suc i) 0 ≡ false
not_first i = grind (arith, nat_tests)

-- the next text of a list
list_text_more : {X : Type 0} (f : Bool → X → List ℕ) (xs : List X) (i : ℕ) (x : X) → slice_get xs i ≡ Some x
    → list_text f (take (i + 1) xs) ≡ list_text f (take i xs) ++ f (nat_eq i 0) x
list_text_more f [] i x at = cc
list_text_more f (y ∷ ys) zero x at = let same : y ≡ x = cc in append-nil (f true y) ∙ ap (f true) same
list_text_more f (y ∷ ys) (suc i) x at =
    ap (λ n. list_text f (take n (y ∷ ys))) (add-one (suc i))
    ∙ ap (λ n. f true y ++ flat_map (f false) (take n ys)) (sym (add-one i))
    ∙ ap (λ t. f true y ++ t) (flat_more (f false) ys i x at)
    ∙ sym (append_assoc (f true y) (flat_map (f false) (take i ys)) (f false x))
    ∙ ap (λ b. f true y ++ flat_map (f false) (take i ys) ++ f b x) (sym (not_first i))

pub listed_at : {X : Type 0} {p q r : Option (List ℕ)} (f : Bool → X → List ℕ) (xs : List X) (i : ℕ) (x : X)
    → slice_get xs i ≡ Some x → Added p (list_text f (take i xs)) q → Added q (f (nat_eq i 0) x) r
    → Added p (list_text f (take (i + 1) xs)) r
listed_at f xs i x at a b = rw (list_text_more f xs i x at) (a & b)

-- what is said of each result is said of this one
pub ok_then : {T E : Type 0} (P Q : T → Type 0) (r : Result T E) → ((t : T) → P t → Q t) → IfOk r P → IfOk r Q
ok_then P Q (Ok t) f p = f t p
ok_then P Q (Err e) f p = tt

-- the first of them, or all
pub take_shown : {X : Type 0} (xs : List X) (m n : ℕ) → m ≡ min (length xs) n → take m xs ≡ take n xs
take_shown xs m n is =
    elim (eqb_tells m n) [
      | inl (t, same) ↦ ap (λ k. take k xs) same
      | inr (f, other) ↦
          (let first : length xs ≤ m = omega (arith, is, other) in
          let more : length xs ≤ n = omega (arith, is, other) in
          take_all m xs first ∙ sym (take_all n xs more))
    ]

-- a test of what is seen of each
pub list_any-map : {X Y : Type 0} (p : Y → Bool) (f : X → Y) (xs : List X)
    → list_any p (map f xs) ≡ list_any (λ x. p (f x)) xs
list_any-map p f [] = refl
list_any-map p f (x ∷ xs) = rw (list_any-map p f xs)
