-- What is added one after the other.
use Rattle.std.proofs.Common.{◌≡◌, ℕ, zero, suc, ◌+◌, ◌<◌, List, [], ◌∷◌, ◌++◌, Option, Some, None, Result, Ok, Err}
use Rattle.std.proofs.Common.{IfOk, add-zero, append-nil, append_assoc, ap, arith, get_or, length, subst, sym, take}
use Rattle.std.proofs.Common.{◌∙◌}
use Rattle.std.specs.Prelude.{MatchResult, slice_get}
use Rattle.std.specs.List.{enumerate_from, flat_map}
use Rattle.std.proofs.lemmas.List.{take_more}
use Rattle.std.proofs.lemmas.Option.{get_or_from_slice_get, slice_get_within}
use Rattle.std.proofs.lemmas.Grind.{flat_map-append}
use Rattle.ira_view_page.specs.Page.{Added, AddedBy, AddedSome}

infixl 60 ◌&◌
pub ◌&◌ : {X : Type 0} {a b c : Option (List X)} {x y : List X} → Added a x b → Added b y c → Added a (x ++ y) c
◌&◌ {X} {a} {b} {c} {x} {y} p q = record {
  ends = λ all e.
      let r = q.ends all e in
      let s = p.ends r.0 r.1 in
      (s.0, s.1, grind (arith, append_assoc s.0 x y, r.2, s.2));
}

-- nothing
pub nothing_added : {X : Type 0} (p : Option (List X)) → Added p [] p
nothing_added p = record { ends = λ all e. (all, e, sym (append-nil all)) }

-- what those so far add, and the next
pub added_next : {X Y : Type 0} {p q r : Option (List Y)} (f : X → List Y) (xs : List X) (i : ℕ) (d : X) → i < length xs
    → Added p (flat_map f (take i xs)) q → Added q (f (get_or xs i d)) r → Added p (flat_map f (take (i + 1) xs)) r
added_next f xs i d l a b =
    let e : flat_map f (take (i + 1) xs) ≡ flat_map f (take i xs) ++ f (get_or xs i d) =
    ap (flat_map f) (take_more xs i d l) ∙ flat_map-append f (take i xs) (get_or xs i d ∷ [])
    ∙ ap (λ t. flat_map f (take i xs) ++ t) (append-nil (f (get_or xs i d))) in
    rw e (a & b)

-- a part of which is known what it holds
pub added_part : {X Y : Type 0} {seen : Y → List X} {a c : Option (List X)} {part : Option Y} (whole : Y)
    → ((all : Y) → part ≡ Some all → all ≡ whole) → AddedBy seen a part c → Added a (seen whole) c
added_part {X} {Y} {seen} {a} {c} {part} whole is p = record {
  ends = λ all e.
      let r = p.ends all e in
      (r.0, r.2, r.4 ∙ ap (λ w. r.0 ++ seen w) (is r.1 r.3));
}

-- a part of which nothing is known
pub some_part : {X Y : Type 0} {seen : Y → List X} {a c : Option (List X)} {part : Option Y} → AddedBy seen a part c
    → AddedSome a c
some_part {part = None} p = ([], record { ends = λ all e. absurd (let r = p.ends all e in cc) })
some_part {seen = seen} {part = Some y} p = (seen y, added_part y (λ all e. cc) p)

-- the same in other words
pub added_as : {X : Type 0} {a b : Option (List X)} {x y : List X} → x ≡ y → Added a x b → Added a y b
added_as {X} {a} {b} {x} {y} same p = subst (λ (t : List X). Added a t b) same p

-- what holds nothing but these
pub holds : {X : Type 0} {a b : Option (List X)} {x : List X} (all : List X) → a ≡ Some [] → Added a x b → b ≡ Some all
    → all ≡ x
holds {X} {a} {b} {x} all is p at =
    let r = p.ends all at in
    let none : r.0 ≡ [] = cc in
    r.2 ∙ ap (λ before. before ++ x) none

-- a finished page holds nothing but these
pub finished : {E : Type 0} {a b : Option (List ℕ)} {x : List ℕ} (r : Result (List ℕ) E) → a ≡ Some [] → Added a x b
    → MatchResult r (λ text. b ≡ Some text) (λ e. b ≡ None) → IfOk r (λ text. text ≡ x)
finished (Ok text) is p at = holds text is p at
finished (Err e) is p at = tt

-- the next element, which is there
pub added_at : {X Y : Type 0} {p q r : Option (List Y)} (f : X → List Y) (xs : List X) (i : ℕ) (x : X)
    → slice_get xs i ≡ Some x → Added p (flat_map f (take i xs)) q → Added q (f x) r
    → Added p (flat_map f (take (i + 1) xs)) r
added_at {X} {Y} {p} {q} {r} f xs i x at a b =
    added_next f xs i x (slice_get_within xs i x at) a
    (subst (λ (y : X). Added q (f y) r) (sym (get_or_from_slice_get xs i x x at)) b)

-- the element of a numbered list
numbered_at : {X : Type 0} (xs : List X) (k i : ℕ) (x : X) → slice_get xs i ≡ Some x
    → slice_get (enumerate_from k xs) i ≡ Some (k + i, x)
numbered_at [] k i x at = cc
numbered_at (y ∷ ys) k zero x at = let n : k + 0 ≡ k = add-zero k in cc
numbered_at {X} (y ∷ ys) k (suc i) x at =
    let n : k + 1 + i ≡ k + suc i = omega arith in
    numbered_at ys (k + 1) i x at ∙ ap (λ (m : ℕ). Some (m, x)) n

pub element_at : {X : Type 0} (xs : List X) (i : ℕ) (x : X) → slice_get xs i ≡ Some x
    → slice_get (enumerate_from 0 xs) i ≡ Some (i, x)
element_at {X} xs i x at =
    let n : 0 + i ≡ i = omega arith in numbered_at xs 0 i x at ∙ ap (λ (m : ℕ). Some (m, x)) n
