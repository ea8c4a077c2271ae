-- A clause that is scanned at the front is spelled so.
use Rattle.std.proofs.Common.{◌≡◌, ◌≤◌, ℕ, zero, suc, Bool, true, false, cond, List, ◌++◌, Option, Some, None, refl}
use Rattle.std.proofs.Common.{sym, ap, subst, ◌∙◌, arith, append_assoc, nat_le}
use Rattle.std.specs.Option.{option_map}
use Rattle.std.specs.Prelude.{codes}
use Rattle.std.proofs.lemmas.Bool.Decides.{nat_tests}
use Rattle.std.proofs.lemmas.Option.{same_Some}
use Rattle.ira_event.specs.Numeral.{IsNumeral}
use Rattle.ira_event.specs.Scan.{kept_at, after_word, ◌>>=◌, then_or}
use Rattle.ira_event.proofs.RecordLines.{bind_some, map_some, word-takes, kept-takes}
use Rattle.ira_pred.specs.declared.rel.Rel.{Rel}
use Rattle.ira_pred.specs.declared.rel.Rel.TheVariants.{Less, Equal, Greater}
use Rattle.ira_pred.specs.Formula.{Formula, always, leader, active, passive, choosing, yielding, owes, round, id, term}
use Rattle.ira_pred.specs.Formula.{both, either, negated, depth, HasNumbersInRange}
use Rattle.ira_pred.specs.QuestionText.{IsComparisonText, IsClauseText, rel_sign}
use Rattle.ira_pred.specs.ClauseScan.{rel_at, limited_at, comparison_at, atom_at, joint_at, joined, joined_at}
use Rattle.ira_pred.specs.ClauseScan.{negated_at, clause_at}

-- ---- comparisons

rel-cases : (text : List ℕ) (p : Rel × List ℕ) (a b c : Option (List ℕ)) → after_word (codes "< ") text ≡ a
    → after_word (codes "= ") text ≡ b → after_word (codes "> ") text ≡ c
    → then_or a (λ r. Some (Less, r)) (then_or b (λ r. Some (Equal, r)) (then_or c (λ r. Some (Greater, r)) None)) ≡
    Some p
    → text ≡ rel_sign p.0 ++ codes " " ++ p.1
rel-cases text p (Some r) b c ea eb ec e =
    word-takes (codes "< ") text r ea
    ∙ ap (λ (q : Rel × List ℕ). rel_sign q.0 ++ codes " " ++ q.1) (same_Some (Less, r) p e)
rel-cases text p None (Some r) c ea eb ec e =
    word-takes (codes "= ") text r eb
    ∙ ap (λ (q : Rel × List ℕ). rel_sign q.0 ++ codes " " ++ q.1) (same_Some (Equal, r) p e)
rel-cases text p None None (Some r) ea eb ec e =
    word-takes (codes "> ") text r ec
    ∙ ap (λ (q : Rel × List ℕ). rel_sign q.0 ++ codes " " ++ q.1) (same_Some (Greater, r) p e)
rel-cases text p None None None ea eb ec e = absurd cc

rel-takes : (text : List ℕ) (p : Rel × List ℕ) → rel_at text ≡ Some p → text ≡ rel_sign p.0 ++ codes " " ++ p.1
rel-takes text p e = rel-cases text p _ _ _ refl refl refl e

kept_if : {A : Type 0} (b : Bool) (x y : A) → cond b (Some x) None ≡ Some y → (b ≡ true) × (x ≡ y)
kept_if true x y e = (refl, same_Some x y e)
kept_if false x y e = absurd cc

limited-takes : (text : List ℕ) (p : ℕ × List ℕ) → limited_at text ≡ Some p → (number : List ℕ) × (text ≡ number ++ p.1)
    × IsNumeral number p.0 × (p.0 ≤ 1000000)
limited-takes text p e =
    let a = bind_some (kept_at text) (λ n. cond (nat_le n.0 1000000) (Some n) None) p e in
    let q = kept_if (nat_le a.0.0 1000000) a.0 p a.2 in
    let k = kept-takes text a.0 a.1 in
    let most : a.0.0 ≤ 1000000 = grind (arith, nat_tests) in
    let first : a.0.0 ≡ p.0 = ap (λ (x : ℕ × List ℕ). x.0) q.1 in
    let same : k.n ≡ p.0 = omega (arith, most, first, k.kept_is) in (
      k.text,
      k.parts ∙ ap (λ (x : ℕ × List ℕ). k.text ++ x.1) q.1,
      subst (IsNumeral k.text) same k.is,
      omega (arith, most, first),
    )

-- a comparison that was taken from the front
record Compared (make : Rel → ℕ → Formula) (text : List ℕ) (p : Formula × List ℕ) : Type 0 where
  front : List ℕ
  rel : Rel
  n : ℕ
  parts : text ≡ front ++ p.1
  is : IsComparisonText front rel n
  made : make rel n ≡ p.0

comparison-takes : (make : Rel → ℕ → Formula) (text : List ℕ) (p : Formula × List ℕ) → comparison_at make text ≡ Some p
    → Compared make text p
comparison-takes make text p e =
    let a = bind_some (rel_at text) (λ rel. option_map (λ n. (make rel.0 n.0, n.1)) (limited_at rel.1)) p e in
    let m = map_some (limited_at a.0.1) (λ n. (make a.0.0 n.0, n.1)) p a.2 in
    let l = limited-takes a.0.1 m.0 m.1 in
    let front = rel_sign a.0.0 ++ codes " " ++ l.0 in record {
      front = front;
      rel = a.0.0;
      n = m.0.0;
      parts = rel-takes text a.0 a.1 ∙ ap (λ w. rel_sign a.0.0 ++ codes " " ++ w) l.1
          ∙ sym (append_assoc (rel_sign a.0.0 ++ codes " ") l.0 m.0.1)
          ∙ ap (λ (q : Formula × List ℕ). front ++ q.1) m.2;
      is = (l.0, refl, l.2, l.3);
      made = ap (λ (q : Formula × List ℕ). q.0) m.2;
    }

-- ---- clauses

-- a clause of at most this depth that was taken from the front
pub record Taken (d : ℕ) (text : List ℕ) (p : Formula × List ℕ) : Type 0 where
  pub front : List ℕ
  pub parts : text ≡ front ++ p.1
  pub is : IsClauseText front p.0
  pub deep : depth p.0 ≤ d

fact : (d : ℕ) (text word r : List ℕ) (f : Formula) (p : Formula × List ℕ) → after_word word text ≡ Some r
    → IsClauseText word f → depth f ≡ 0 → ◌≡◌ {A = Option (Formula × List ℕ)} (Some (f, r)) (Some p) → Taken d text p
fact d text word r f p begins is flat e =
    subst (Taken d text) (same_Some (f, r) p e) (record {
      front = word;
      parts = word-takes word text r begins;
      is = is;
      deep = omega (arith, flat);
    })

compared : (d : ℕ) (text word r : List ℕ) (make : Rel → ℕ → Formula) (p : Formula × List ℕ)
    → after_word word text ≡ Some r
    → ((rest : List ℕ) (rel : Rel) (n : ℕ) → IsComparisonText rest rel n → IsClauseText (word ++ rest) (make rel n))
    → ((rel : Rel) (n : ℕ) → depth (make rel n) ≡ 0)
    → comparison_at make r ≡ Some p → Taken d text p
compared d text word r make p begins is flat e =
    let c = comparison-takes make r p e in record {
      front = word ++ c.front;
      parts = word-takes word text r begins ∙ ap (λ w. word ++ w) c.parts ∙ sym (append_assoc word c.front p.1);
      is = subst (IsClauseText (word ++ c.front)) c.made (is c.front c.rel c.n c.is);
      deep = omega (arith, ap depth c.made, flat c.rel c.n);
    }

atom-cases : (d : ℕ) (text : List ℕ) (p : Formula × List ℕ) (a b c g h y i j k t : Option (List ℕ))
    → after_word (codes "true") text ≡ a → after_word (codes "leader") text ≡ b → after_word (codes "active") text ≡ c
    → after_word (codes "passive") text ≡ g
    → after_word (codes "choosing") text ≡ h → after_word (codes "yielding") text ≡ y
    → after_word (codes "owes") text ≡ i → after_word (codes "round ") text ≡ j → after_word (codes "id ") text ≡ k
    → after_word (codes "term ") text ≡ t
    → then_or a (λ r. Some (always, r))
    (then_or b (λ r. Some (leader, r))
    (then_or c (λ r. Some (active, r))
    (then_or g (λ r. Some (passive, r))
    (then_or h (λ r. Some (choosing, r)) (then_or y (λ r. Some (yielding, r)) (then_or i (λ r. Some (owes, r))
    (then_or j (comparison_at round) (then_or k (comparison_at id) (then_or t (comparison_at term) None))))))))) ≡ Some
    p
    → Taken d text p
atom-cases d text p (Some r) b c g h y i j k t ea eb ec eg eh ey ei ej ek et e =
    fact d text (codes "true") r always p ea refl refl e
atom-cases d text p None (Some r) c g h y i j k t ea eb ec eg eh ey ei ej ek et e =
    fact d text (codes "leader") r leader p eb refl refl e
atom-cases d text p None None (Some r) g h y i j k t ea eb ec eg eh ey ei ej ek et e =
    fact d text (codes "active") r active p ec refl refl e
atom-cases d text p None None None (Some r) h y i j k t ea eb ec eg eh ey ei ej ek et e =
    fact d text (codes "passive") r passive p eg refl refl e
atom-cases d text p None None None None (Some r) y i j k t ea eb ec eg eh ey ei ej ek et e =
    fact d text (codes "choosing") r choosing p eh refl refl e
atom-cases d text p None None None None None (Some r) i j k t ea eb ec eg eh ey ei ej ek et e =
    fact d text (codes "yielding") r yielding p ey refl refl e
atom-cases d text p None None None None None None (Some r) j k t ea eb ec eg eh ey ei ej ek et e =
    fact d text (codes "owes") r owes p ei refl refl e
atom-cases d text p None None None None None None None (Some r) k t ea eb ec eg eh ey ei ej ek et e =
    compared d text (codes "round ") r round p ej (λ rest rel n is. (rest, refl, is)) (λ rel n. refl) e
atom-cases d text p None None None None None None None None (Some r) t ea eb ec eg eh ey ei ej ek et e =
    compared d text (codes "id ") r id p ek (λ rest rel n is. (rest, refl, is)) (λ rel n. refl) e
atom-cases d text p None None None None None None None None None (Some r) ea eb ec eg eh ey ei ej ek et e =
    compared d text (codes "term ") r term p et (λ rest rel n is. (rest, refl, is)) (λ rel n. refl) e
atom-cases d text p None None None None None None None None None None ea eb ec eg eh ey ei ej ek et e = absurd cc

atom-takes : (d : ℕ) (text : List ℕ) (p : Formula × List ℕ) → atom_at text ≡ Some p → Taken d text p
atom-takes d text p e = atom-cases d text p _ _ _ _ _ _ _ _ _ _ refl refl refl refl refl refl refl refl refl refl e

-- the word between two clauses
abbrev joint_word : Bool → List ℕ
joint_word true = codes " and "
joint_word false = codes " or "

joint-cases : (text : List ℕ) (p : Bool × List ℕ) (a b : Option (List ℕ)) → after_word (codes " and ") text ≡ a
    → after_word (codes " or ") text ≡ b
    → then_or a (λ r. Some (true, r)) (then_or b (λ r. Some (false, r)) None) ≡ Some p → text ≡ joint_word p.0 ++ p.1
joint-cases text p (Some r) b ea eb e =
    word-takes (codes " and ") text r ea ∙ ap (λ (q : Bool × List ℕ). joint_word q.0 ++ q.1) (same_Some (true, r) p e)
joint-cases text p None (Some r) ea eb e =
    word-takes (codes " or ") text r eb ∙ ap (λ (q : Bool × List ℕ). joint_word q.0 ++ q.1) (same_Some (false, r) p e)
joint-cases text p None None ea eb e = absurd cc

joint-takes : (text : List ℕ) (p : Bool × List ℕ) → joint_at text ≡ Some p → text ≡ joint_word p.0 ++ p.1
joint-takes text p e = joint-cases text p _ _ refl refl e

joined_is : (w : Bool) (left right : List ℕ) (a b : Formula) → IsClauseText left a → IsClauseText right b
    → IsClauseText (codes "(" ++ left ++ joint_word w ++ right ++ codes ")") (joined w a b)
joined_is true left right a b h k = (left, right, refl, h, k)
joined_is false left right a b h k = (left, right, refl, h, k)

joined_deep : (w : Bool) (a b : Formula) (d : ℕ) → depth a ≤ d → depth b ≤ d → depth (joined w a b) ≤ suc d
joined_deep true a b d h k = omega (arith, h, k)
joined_deep false a b d h k = omega (arith, h, k)

-- the parts of two joined clauses, put together
joined_parts : (d : ℕ) (text r : List ℕ) (p : Formula × List ℕ) (w : Bool) (a b : Formula
    × List ℕ) (remainder after : List ℕ) → text ≡ codes "(" ++ r → Taken d r a → a.1 ≡ joint_word w ++ remainder
    → Taken d remainder b → b.1 ≡ codes ")" ++ after → (joined w a.0 b.0, after) ≡ p → Taken (suc d) text p
joined_parts d text r p w a b remainder after begins left joint right ends made =
    let back = right.parts ∙ ap (λ x. right.front ++ x) ends in
    let middle = left.parts ∙ ap (λ x. left.front ++ x) (joint ∙ ap (λ x. joint_word w ++ x) back) in
    subst (Taken (suc d) text) {x = (joined w a.0 b.0, after)} made (record {
      front = codes "(" ++ left.front ++ joint_word w ++ right.front ++ codes ")";
      parts = begins ∙ ap (λ x. codes "(" ++ x) middle ∙ simp append_assoc;
      is = joined_is w left.front right.front a.0 b.0 left.is right.is;
      deep = joined_deep w a.0 b.0 d left.deep right.deep;
    })

module _ (d : ℕ) (inner : (t : List ℕ) (q : Formula × List ℕ) → clause_at d t ≡ Some q
    → Taken d t q) (text : List ℕ) (p : Formula × List ℕ) where
  negated-takes : (r : List ℕ) → after_word (codes "(not ") text ≡ Some r → negated_at (clause_at d) r ≡ Some p
      → Taken (suc d) text p
  negated-takes r begins e =
      let a = bind_some (clause_at d r) (λ a. option_map (λ s. (negated a.0, s)) (after_word (codes ")") a.1)) p e in
      let m = map_some (after_word (codes ")") a.0.1) (λ s. (negated a.0.0, s)) p a.2 in
      let t = inner r a.0 a.1 in
      let back = t.parts ∙ ap (λ w. t.front ++ w) (word-takes (codes ")") a.0.1 m.0 m.1) in
      subst (Taken (suc d) text) m.2 (record {
        front = codes "(not " ++ t.front ++ codes ")";
        parts = word-takes (codes "(not ") text r begins ∙ ap (λ w. codes "(not " ++ w) back ∙ simp append_assoc;
        is = (t.front, refl, t.is);
        deep = omega (arith, t.deep);
      })

  joined-takes : (r : List ℕ) → after_word (codes "(") text ≡ Some r → joined_at (clause_at d) r ≡ Some p
      → Taken (suc d) text p
  joined-takes r begins e =
      let a = bind_some (clause_at d r) (λ a.
      joint_at a.1 >>= (λ w. clause_at d w.1 >>= (λ b.
      option_map (λ s. (joined w.0 a.0 b.0, s)) (after_word (codes ")") b.1)))) p e in
      let w = bind_some (joint_at a.0.1) (λ w.
      clause_at d w.1 >>= (λ b. option_map (λ s. (joined w.0 a.0.0 b.0, s)) (after_word (codes ")") b.1))) p a.2 in
      let b = bind_some (clause_at d w.0.1) (λ b.
      option_map (λ s. (joined w.0.0 a.0.0 b.0, s)) (after_word (codes ")") b.1)) p w.2 in
      let m = map_some (after_word (codes ")") b.0.1) (λ s. (joined w.0.0 a.0.0 b.0.0, s)) p b.2 in
      joined_parts d text r p w.0.0 a.0 b.0 w.0.1 m.0 (word-takes (codes "(") text r begins) (inner r a.0 a.1)
      (joint-takes a.0.1 w.0 w.1) (inner w.0.1 b.0 b.1) (word-takes (codes ")") b.0.1 m.0 m.1) m.2

  nested-cases : (a b : Option (List ℕ)) → after_word (codes "(not ") text ≡ a → after_word (codes "(") text ≡ b
      → then_or a (negated_at (clause_at d)) (then_or b (joined_at (clause_at d)) (atom_at text)) ≡ Some p
      → Taken (suc d) text p
  nested-cases (Some r) b ea eb e = negated-takes r ea e
  nested-cases None (Some r) ea eb e = joined-takes r eb e
  nested-cases None None ea eb e = atom-takes (suc d) text p e

pub clause-takes : (d : ℕ) (text : List ℕ) (p : Formula × List ℕ) → clause_at d text ≡ Some p → Taken d text p
clause-takes zero text p e = atom-takes zero text p e
clause-takes (suc d) text p e = nested-cases d (λ t q. clause-takes d t q) text p _ _ refl refl e

-- the numbers of a clause of the grammar are in range
pub clause_in_range : (text : List ℕ) (f : Formula) → IsClauseText text f → HasNumbersInRange f
clause_in_range text always h = tt
clause_in_range text leader h = tt
clause_in_range text active h = tt
clause_in_range text passive h = tt
clause_in_range text choosing h = tt
clause_in_range text yielding h = tt
clause_in_range text owes h = tt
clause_in_range text (round rel n) h = h.2.3
clause_in_range text (id rel n) h = h.2.3
clause_in_range text (term rel n) h = h.2.3
clause_in_range text (both a b) h = (clause_in_range h.0 a h.3, clause_in_range h.1 b h.4)
clause_in_range text (either a b) h = (clause_in_range h.0 a h.3, clause_in_range h.1 b h.4)
clause_in_range text (negated a) h = clause_in_range h.0 a h.2
