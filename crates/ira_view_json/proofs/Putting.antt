-- What is put into an object one after the other.
use Rattle.std.proofs.Common.{◌≡◌, ◌∙◌, ◌++◌, [], ℕ, List, Option, Some, Result, Ok, Err, IfOk, OnOk, ap, is_ok}
use Rattle.std.proofs.Common.{refl, subst, sym, true}
use Rattle.json.specs.Json.{Json, Members, object}
use Rattle.ira_view_json.specs.Members.{put}
use Rattle.ira_view_json.specs.Object.{Gives, Holds, Puts, PutsOf}
use Rattle.ira_view_json.specs.View.{members_view, view}
use Rattle.ira_view_json.specs.declared.object.Object.{Object}
use Rattle.ira_view_json.specs.declared.value.Value.{Value}
use Rattle.ira_view_page.specs.Page.{Added}

infixl 60 ◌&◌
pub ◌&◌ : {A : Type 0} {a b c : Object A} {f g : Members → Members} → Puts f a b → Puts g b c
    → Puts (λ m. g (f m)) a c
◌&◌ {A} {a} {b} {c} {f} {g} p q = record {
  ends = λ now e.
      let r = q.ends now e in
      let s = p.ends r.0 r.1 in
      (s.0, s.1, r.2 ∙ ap g s.2);
}

-- the same in other words
pub puts_as : {A : Type 0} {f g : Members → Members} {a b : Object A} → ((m : Members) → f m ≡ g m) → Puts f a b
    → Puts g a b
puts_as {A} {f} {g} {a} {b} same p = record {
  ends = λ now e.
      let r = p.ends now e in
      (r.0, r.1, r.2 ∙ same r.0);
}

pub puts_by : {X A : Type 0} {x y : X} {a b : Object A} (f : X → Members → Members) → x ≡ y → Puts (f x) a b
    → Puts (f y) a b
puts_by f same p = puts_as (λ m. ap (λ x. f x m) same) p

-- a value of which is known what it is
pub known : {A E : Type 0} {key : List ℕ} {r : Result (Value A) E} {a b : Object A} (d : Json)
    → IfOk r (λ value. view value ≡ d) → PutsOf key r a b → Puts (put key d) a b
known {A} {E} {key} {r} {a} {b} d is p = record {
  ends = λ now e.
      let q = p.ends now e in
      let given : view q.1 ≡ d = subst (λ (s : Result (Value A) E). IfOk s (λ value. view value ≡ d)) q.3 is in
      (q.0, q.2, q.4 ∙ ap (λ v. put key v q.0) given);
}

-- what is on a page that had nothing
pub page_words : {t all : List ℕ} {e page : Option (List ℕ)} → e ≡ Some [] → Added e t page → page ≡ Some all
    → all ≡ t
page_words {t} {all} is p at =
    let s = p.ends all at in
    let none : s.0 ≡ [] = cc in
    s.2 ∙ ap (λ before. before ++ t) none

-- an object that had these members
pub held : {A : Type 0} {f : Members → Members} {m : Members} {a b : Object A} → Holds m a → Puts f a b
    → Holds (f m) b
held {A} {f} {m} {a} {b} h p = record {
  are = λ all e.
      let s = p.ends all e in
      s.2 ∙ ap f (h.are s.0 s.1);
}

-- the value of an object with these
pub given : {A E : Type 0} {m : Members} {o : Object A} (r : Result (Value A) E) → Holds m o → Gives o r
    → IfOk r (λ value. view value ≡ object m)
given (Ok value) h g = g.2 ∙ ap object (h.are g.0 g.1)
given (Err e) h g = tt

-- a value was put, unless a growth was refused
pub puts_if : {A E : Type 0} {change : Members → Members} (old new : Object A) (r : Result (Unit {0}) E)
    → old.is_whole ≡ true → new.is_whole ≡ is_ok r
    → OnOk r (members_view new.members.items ≡ change (members_view old.members.items)) → Puts change old new
puts_if old new (Ok v) was is done = record {
  ends = λ now e.
      let kept : members_view new.members.items ≡ now = cc in
      (members_view old.members.items, rw was refl, sym kept ∙ done);
}
puts_if old new (Err v) was is done = record { ends = λ now e. absurd cc }
