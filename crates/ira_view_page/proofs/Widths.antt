-- How wide what was added to a page is.
use Rattle.std.proofs.Common.{◌≡◌, ◌-◌, ◌++◌, ℕ, List, Option, Some, ap, arith, length, length-append, subst}
use Rattle.std.specs.Prelude.{IfSome}
use Rattle.ira_view_page.specs.Page.{Added}

-- by so much the page is longer
pub width_is : {a b : Option (List ℕ)} {x : List ℕ} (all : List ℕ) (m n : ℕ) → Added a x b → b ≡ Some all
    → IfSome a (λ t. m ≡ length t) → IfSome b (λ t. n ≡ length t) → n - m ≡ length x
width_is {a} {b} {x} all m n added at before after =
    let r = added.ends all at in
    let first = subst (λ (o : Option (List ℕ)). IfSome o (λ t. m ≡ length t)) r.1 before in
    let second = subst (λ (o : Option (List ℕ)). IfSome o (λ t. n ≡ length t)) at after in
    omega (arith, first, second, ap length r.2, length-append r.0 x)

-- other words for what was added, which are the same where the page is whole
pub added_when : {X : Type 0} {a b : Option (List X)} {x y : List X} → ((all : List X) → b ≡ Some all → x ≡ y)
    → Added a x b → Added a y b
added_when {X} {a} {b} {x} {y} same p = record {
  ends = λ all e. let r = p.ends all e in (r.0, r.1, subst (λ (t : List X). all ≡ r.0 ++ t) (same all e) r.2);
}
