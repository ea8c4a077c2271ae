-- How deep a text's parentheses go, and that a clause's text goes as deep as the clause.
use Rattle.std.proofs.Common.{◌≡◌, ◌≢◌, ◌≤◌, ◌<◌, ◌+◌, ◌-◌, ◌⊎◌, ℕ, Bool, true, false, cond, List, [], ◌∷◌, ◌++◌}
use Rattle.std.proofs.Common.{length, take, drop, get_or, refl, sym, ap, subst, ◌∙◌, arith, append_assoc, length-append}
use Rattle.std.proofs.Common.{nat_eq, max, inl, inr}
use Rattle.std.specs.Prelude.{codes, ◌↔◌}
use Rattle.std.proofs.lemmas.List.{append-nil, take_at, take-append-drop}
use Rattle.std.proofs.lemmas.List.Sums.{sum_by-cons, count_by_more_yes, count_by_more_no}
use Rattle.std.proofs.lemmas.Bool.Decides.{nat_tests}
use Rattle.ira_event.specs.Numeral.{IsNumeral}
use Rattle.ira_event.proofs.Numerals.{Lacks-numeral}
use Rattle.ira_event.proofs.Pieces.{Lacks, or_parts}
use Rattle.ira_event.proofs.Spelled.{zero_or_more}
use Rattle.ira_pred.specs.declared.rel.Rel.{Rel}
use Rattle.ira_pred.specs.declared.rel.Rel.TheVariants.{Less, Equal, Greater}
use Rattle.ira_pred.specs.Formula.{Formula, always, leader, active, passive, choosing, yielding, owes, round, id, term}
use Rattle.ira_pred.specs.Formula.{both, either, negated, depth}
use Rattle.ira_pred.specs.QuestionText.{rel_sign, IsClauseText}
use Rattle.ira_pred.specs.QuestionTextFault.{opened, closed, IsTooDeep}

-- the greatest excess of `(` over `)` in any front of the text
abbrev pub deepest : List ℕ → ℕ
deepest [] = 0
deepest (c ∷ cs) = cond (nat_eq c 40) (1 + deepest cs) (cond (nat_eq c 41) (deepest cs - 1) (deepest cs))

-- ---- it is that excess

opened_cons : (c : ℕ) (cs : List ℕ) → opened (c ∷ cs) ≡ cond (nat_eq c 40) 1 0 + opened cs
opened_cons c cs = sum_by-cons (λ x. cond (nat_eq x 40) 1 0) c cs

closed_cons : (c : ℕ) (cs : List ℕ) → closed (c ∷ cs) ≡ cond (nat_eq c 41) 1 0 + closed cs
closed_cons c cs = sum_by-cons (λ x. cond (nat_eq x 41) 1 0) c cs

opened_more : (c : ℕ) (cs : List ℕ) (b : Bool) → nat_eq c 40 ≡ b → opened (c ∷ cs) ≡ cond b 1 0 + opened cs
opened_more c cs b e = opened_cons c cs ∙ ap (λ x. cond x 1 0 + opened cs) e

closed_more : (c : ℕ) (cs : List ℕ) (b : Bool) → nat_eq c 41 ≡ b → closed (c ∷ cs) ≡ cond b 1 0 + closed cs
closed_more c cs b e = closed_cons c cs ∙ ap (λ x. cond x 1 0 + closed cs) e

step_within : (c : ℕ) (o k m : ℕ) (p q : Bool) → nat_eq c 40 ≡ p → nat_eq c 41 ≡ q → o ≤ k + m
    → (cond p 1 0) + o ≤ ((cond q 1 0) + k) + cond p (1 + m) (cond q (m - 1) m)
step_within c o k m true true e f h = omega arith
step_within c o k m true false e f h = omega arith
step_within c o k m false true e f h = omega arith
step_within c o k m false false e f h = omega arith

front_within : (front back : List ℕ) → opened front ≤ closed front + deepest (front ++ back)
front_within [] back = omega arith
front_within (c ∷ cs) back =
    let step = step_within c (opened cs) (closed cs) (deepest (cs ++ back)) (nat_eq c 40) (nat_eq c 41) refl refl
    (front_within cs back) in
    let one = opened_cons c cs in
    let two = closed_cons c cs in
    subst (λ x. x ≤ closed (c ∷ cs) + deepest ((c ∷ cs) ++ back)) (sym one)
    (subst (λ x. cond (nat_eq c 40) 1 0 + opened cs ≤ x + deepest ((c ∷ cs) ++ back)) (sym two) step)

-- some front has it
record Reached (text : List ℕ) (m : ℕ) : Type 0 where
  front : List ℕ
  back : List ℕ
  parts : text ≡ front ++ back
  is : opened front ≡ closed front + m

nothing_reached : (text : List ℕ) (m : ℕ) → m ≡ 0 → Reached text m
nothing_reached text m e = record { front = []; back = text; parts = refl; is = omega (arith, e) }

reached_more : (c : ℕ) (cs : List ℕ) (m : ℕ) (p q : Bool) → nat_eq c 40 ≡ p → nat_eq c 41 ≡ q → Reached cs m → (m ≡ 0)
    ⊎ (0 < m) → Reached (c ∷ cs) (cond p (1 + m) (cond q (m - 1) m))
reached_more c cs m true q e f r some =
    let no_close : nat_eq c 41 ≡ false = grind (arith, nat_tests) in
    record {
      front = c ∷ r.front;
      back = r.back;
      parts = ap (λ w. c ∷ w) r.parts;
      is = omega (arith, opened_more c r.front true e, closed_more c r.front false no_close, r.is);
    }
reached_more c cs m false true e f r (inl none) = nothing_reached (c ∷ cs) (m - 1) (omega arith)
reached_more c cs m false true e f r (inr some) =
    record {
      front = c ∷ r.front;
      back = r.back;
      parts = ap (λ w. c ∷ w) r.parts;
      is = omega (arith, opened_more c r.front false e, closed_more c r.front true f, r.is, some);
    }
reached_more c cs m false false e f r some =
    record {
      front = c ∷ r.front;
      back = r.back;
      parts = ap (λ w. c ∷ w) r.parts;
      is = omega (arith, opened_more c r.front false e, closed_more c r.front false f, r.is);
    }

reached : (text : List ℕ) → Reached text (deepest text)
reached [] = nothing_reached [] 0 refl
reached (c ∷ cs) = reached_more c cs (deepest cs) (nat_eq c 40) (nat_eq c 41) refl refl (reached cs)
    (zero_or_more (deepest cs))

pub too_deep_exactly : (text : List ℕ) → IsTooDeep text ↔ (32 < deepest text)
too_deep_exactly text = (
  λ h. let within = front_within h.0 h.1 in let same = ap deepest h.2 in omega (arith, within, same, h.3),
  λ h. let r = reached text in (r.front, r.back, r.parts, omega (arith, h, r.is)),
)

-- ---- a clause's text goes as deep as the clause

flat : (text rest : List ℕ) → Lacks 40 text → Lacks 41 text → deepest (text ++ rest) ≡ deepest rest
flat [] rest h k = refl
flat (c ∷ cs) rest h k =
    let p = or_parts (nat_eq c 40) _ h in
    let q = or_parts (nat_eq c 41) _ k in
    rw (p.0, q.0) (flat cs rest p.1 q.1)

sign_flat : (rel : Rel) (rest : List ℕ) → deepest (rel_sign rel ++ codes " " ++ rest) ≡ deepest rest
sign_flat Less rest = refl
sign_flat Equal rest = refl
sign_flat Greater rest = refl

comparison_flat : (text number rest : List ℕ) (rel : Rel) (n : ℕ) → text ≡ rel_sign rel ++ codes " " ++ number
    → IsNumeral number n → deepest (text ++ rest) ≡ deepest rest
comparison_flat text number rest rel n p is =
    ap (λ w. deepest (w ++ rest)) p ∙ ap deepest (append_assoc (rel_sign rel ++ codes " ") number rest)
    ∙ sign_flat rel (number ++ rest)
    ∙ flat number rest (Lacks-numeral 40 number n (omega arith) is) (Lacks-numeral 41 number n (omega arith) is)

joined_deepest : (a b r x y z : ℕ) → x ≡ max a y → y ≡ max b z → z ≡ r - 1 → 1 + x ≡ max (1 + max a b) r
joined_deepest a b r x y z p q s = omega arith

negated_deepest : (a r x z : ℕ) → x ≡ max a z → z ≡ r - 1 → 1 + x ≡ max (1 + a) r
negated_deepest a r x z p s = omega arith

zero_max : (x : ℕ) → x ≡ max 0 x
zero_max x = omega arith

pub clause_deepest : (f : Formula) (text rest : List ℕ) → IsClauseText text f
    → deepest (text ++ rest) ≡ max (depth f) (deepest rest)
clause_deepest always text rest h = rw h (zero_max (deepest rest))
clause_deepest leader text rest h = rw h (zero_max (deepest rest))
clause_deepest active text rest h = rw h (zero_max (deepest rest))
clause_deepest passive text rest h = rw h (zero_max (deepest rest))
clause_deepest choosing text rest h = rw h (zero_max (deepest rest))
clause_deepest yielding text rest h = rw h (zero_max (deepest rest))
clause_deepest owes text rest h = rw h (zero_max (deepest rest))
clause_deepest (round rel n) text rest h =
    ap (λ w. deepest (w ++ rest)) h.1 ∙ comparison_flat h.0 h.2.0 rest rel n h.2.1 h.2.2 ∙ zero_max (deepest rest)
clause_deepest (id rel n) text rest h =
    ap (λ w. deepest (w ++ rest)) h.1 ∙ comparison_flat h.0 h.2.0 rest rel n h.2.1 h.2.2 ∙ zero_max (deepest rest)
clause_deepest (term rel n) text rest h =
    ap (λ w. deepest (w ++ rest)) h.1 ∙ comparison_flat h.0 h.2.0 rest rel n h.2.1 h.2.2 ∙ zero_max (deepest rest)
clause_deepest (both a b) text rest h =
    let tail = codes " and " ++ (h.1 ++ (codes ")" ++ rest)) in
    let regrouped : text ++ rest ≡ codes "(" ++ (h.0 ++ tail) = ap (λ w. w ++ rest) h.2 ∙ simp append_assoc in
    ap deepest regrouped ∙ joined_deepest (depth a) (depth b) (deepest rest) (deepest (h.0 ++ tail))
    (deepest (h.1 ++ (codes ")" ++ rest))) (deepest (codes ")" ++ rest)) (clause_deepest a h.0 tail h.3)
    (clause_deepest b h.1 (codes ")" ++ rest) h.4) refl
clause_deepest (either a b) text rest h =
    let tail = codes " or " ++ (h.1 ++ (codes ")" ++ rest)) in
    let regrouped : text ++ rest ≡ codes "(" ++ (h.0 ++ tail) = ap (λ w. w ++ rest) h.2 ∙ simp append_assoc in
    ap deepest regrouped ∙ joined_deepest (depth a) (depth b) (deepest rest) (deepest (h.0 ++ tail))
    (deepest (h.1 ++ (codes ")" ++ rest))) (deepest (codes ")" ++ rest)) (clause_deepest a h.0 tail h.3)
    (clause_deepest b h.1 (codes ")" ++ rest) h.4) refl
clause_deepest (negated a) text rest h =
    let regrouped : text ++ rest ≡ codes "(not " ++ (h.0 ++ (codes ")" ++ rest)) =
    ap (λ w. w ++ rest) h.1 ∙ simp append_assoc in
    ap deepest regrouped ∙ negated_deepest (depth a) (deepest rest) (deepest (h.0 ++ (codes ")" ++ rest)))
    (deepest (codes ")" ++ rest)) (clause_deepest a h.0 (codes ")" ++ rest) h.2) refl

-- a clause's text is too deep where the clause is
pub clause_too_deep : (text : List ℕ) (f : Formula) → IsClauseText text f → IsTooDeep text ↔ (32 < depth f)
clause_too_deep text f h =
    let same : deepest text ≡ depth f =
    sym (ap deepest (append-nil text)) ∙ clause_deepest f text [] h ∙ omega arith in (
      λ deep. let d = (too_deep_exactly text).0 deep in
          omega (arith, d, same),
      λ d. (too_deep_exactly text).1 (omega (arith, d, same)),
    )

-- ---- counted from the front

-- what a count of the parentheses of the first i bytes knows: so many, and no front of theirs is too deep
pub record Counted (text : List ℕ) (i o k : ℕ) : Type 0 where
  pub opens : o ≡ opened (take i text)
  pub closes : k ≡ closed (take i text)
  pub shallow : (j : ℕ) → j ≤ i → ¬ (closed (take j text) + 32 < opened (take j text))

module _ (text : List ℕ) (i o k : ℕ) (there : i < length text) (h : Counted text i o k) where
  pub counts_open : get_or text i 0 ≡ 40 → (o + 1 ≡ opened (take (i + 1) text)) × (k ≡ closed (take (i + 1) text))
  counts_open is =
      let yes : nat_eq (get_or text i 0) 40 ≡ true = ap (λ x. nat_eq x 40) is in
      let no : nat_eq (get_or text i 0) 41 ≡ false = ap (λ x. nat_eq x 41) is in (
        omega (arith, h.opens, count_by_more_yes (λ x. nat_eq x 40) text i 0 there yes),
        h.closes ∙ sym (count_by_more_no (λ x. nat_eq x 41) text i 0 there no),
      )

  pub counts_close : get_or text i 0 ≡ 41 → (o ≡ opened (take (i + 1) text)) × (k + 1 ≡ closed (take (i + 1) text))
  counts_close is =
      let yes : nat_eq (get_or text i 0) 41 ≡ true = ap (λ x. nat_eq x 41) is in
      let no : nat_eq (get_or text i 0) 40 ≡ false = ap (λ x. nat_eq x 40) is in (
        h.opens ∙ sym (count_by_more_no (λ x. nat_eq x 40) text i 0 there no),
        omega (arith, h.closes, count_by_more_yes (λ x. nat_eq x 41) text i 0 there yes),
      )

  pub counts_other : get_or text i 0 ≢ 40 → get_or text i 0 ≢ 41 → (o ≡ opened (take (i + 1) text))
      × (k ≡ closed (take (i + 1) text))
  counts_other a b =
      let no_open : nat_eq (get_or text i 0) 40 ≡ false = grind (arith, nat_tests) in
      let no_close : nat_eq (get_or text i 0) 41 ≡ false = grind (arith, nat_tests) in (
        h.opens ∙ sym (count_by_more_no (λ x. nat_eq x 40) text i 0 there no_open),
        h.closes ∙ sym (count_by_more_no (λ x. nat_eq x 41) text i 0 there no_close),
      )

-- before the first byte
pub counts_none : (text : List ℕ) → Counted text 0 0 0
counts_none text = record {
  opens = refl;
  closes = refl;
  shallow = λ j low deep. (let none : j ≡ 0 = omega arith in
      let first = subst (λ x. closed (take x text) + 32 < opened (take x text)) none deep in
      absurd (omega (arith, first)));
}

up_to : (j i : ℕ) → j ≤ i + 1 → (j ≤ i) ⊎ (j ≡ i + 1)
up_to j i low = grind arith

shallow_more : (text : List ℕ) (i o k j : ℕ) → ((l : ℕ) → l ≤ i → ¬ (closed (take l text) + 32 < opened (take l text)))
    → (o ≡ opened (take (i + 1) text)) × (k ≡ closed (take (i + 1) text)) → o ≤ k + 32 → (j ≤ i) ⊎ (j ≡ i + 1)
    → ¬ (closed (take j text) + 32 < opened (take j text))
shallow_more text i o k j h p few (inl low) = h j low
shallow_more text i o k j h p few (inr e) =
    λ deep. (let last = subst (λ x. closed (take x text) + 32 < opened (take x text)) e deep in
    absurd (omega (arith, p.0, p.1, few, last)))

-- one byte more, at which the text goes no deeper than it may
pub counts_more : (text : List ℕ) (i o k p q : ℕ) → Counted text i o k → (p ≡ opened (take (i + 1) text))
    × (q ≡ closed (take (i + 1) text)) → p ≤ q + 32 → Counted text (i + 1) p q
counts_more text i o k p q h turn few = record {
  opens = turn.0;
  closes = turn.1;
  shallow = λ j low. shallow_more text i p q j h.shallow turn few (up_to j i low);
}

pub counted_deep : (text : List ℕ) (i o k : ℕ) → (o ≡ opened (take i text)) × (k ≡ closed (take i text)) → k + 32 < o
    → IsTooDeep text
counted_deep text i o k p deep =
    (take i text, drop i text, sym (take-append-drop i text), omega (arith, p.0, p.1, deep))

pub counted_all : (text : List ℕ) (i o k : ℕ) → Counted text i o k → length text ≤ i → ¬ (IsTooDeep text)
counted_all text i o k h all d =
    let front : take (length d.0) text ≡ d.0 = ap (λ w. take (length d.0) w) d.2 ∙ take_at d.0 d.1 (length d.0) refl in
    let within : length d.0 ≤ i = omega (arith, all, ap length d.2, length-append d.0 d.1) in
    h.shallow (length d.0) within (subst (λ w. closed w + 32 < opened w) (sym front) d.3)
