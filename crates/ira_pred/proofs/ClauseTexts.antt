-- A clause has one spelling, and a spelling at the front is read as that clause.
use Rattle.std.proofs.Common.{◌≡◌, ◌≤◌, ◌<◌, ◌^◌, ◌+◌, ◌-◌, ℕ, zero, suc, true, List, [], ◌++◌, Some, None, refl, sym}
use Rattle.std.proofs.Common.{ap, ◌∙◌, arith, append_assoc, nat_le, Option}
use Rattle.std.specs.Prelude.{codes, decimal}
use Rattle.std.proofs.lemmas.Bool.Decides.{nat_tests}
use Rattle.std.proofs.lemmas.Option.{same_Some}
use Rattle.ira_event.specs.Numeral.{IsNumeral}
use Rattle.ira_event.specs.Scan.{kept, after_word, then_or}
use Rattle.ira_event.proofs.Numerals.{NoDigit}
use Rattle.ira_event.proofs.RecordLines.{kept-again}
use Rattle.ira_event.proofs.Spelled.{numeral_is_decimal, decimal_is_numeral}
use Rattle.ira_pred.specs.declared.rel.Rel.{Rel}
use Rattle.ira_pred.specs.declared.rel.Rel.TheVariants.{Less, Equal, Greater}
use Rattle.ira_pred.specs.Formula.{Formula, always, leader, active, passive, choosing, yielding, owes, round, id, term}
use Rattle.ira_pred.specs.Formula.{both, either, negated, depth, HasNumbersInRange}
use Rattle.ira_pred.specs.QuestionText.{IsComparisonText, IsClauseText, clause_text, rel_sign}
use Rattle.ira_pred.specs.ClauseScan.{rel_at, limited_at, comparison_at, atom_at, joined_at, negated_at, clause_at}

small : (n : ℕ) → n ≤ 1000000 → n < 2 ^ 64
small n h = omega arith

-- ---- one spelling

pub clause_spelled : (text : List ℕ) (f : Formula) → IsClauseText text f → text ≡ clause_text f
clause_spelled text always h = h
clause_spelled text leader h = h
clause_spelled text active h = h
clause_spelled text passive h = h
clause_spelled text choosing h = h
clause_spelled text yielding h = h
clause_spelled text owes h = h
clause_spelled text (round rel n) h =
    h.1 ∙ ap (λ w. codes "round " ++ w) (h.2.1
    ∙ ap (λ w. rel_sign rel ++ codes " " ++ w) (numeral_is_decimal h.2.0 n h.2.2 (small n h.2.3)))
clause_spelled text (id rel n) h =
    h.1 ∙ ap (λ w. codes "id " ++ w) (h.2.1
    ∙ ap (λ w. rel_sign rel ++ codes " " ++ w) (numeral_is_decimal h.2.0 n h.2.2 (small n h.2.3)))
clause_spelled text (term rel n) h =
    h.1 ∙ ap (λ w. codes "term " ++ w) (h.2.1
    ∙ ap (λ w. rel_sign rel ++ codes " " ++ w) (numeral_is_decimal h.2.0 n h.2.2 (small n h.2.3)))
clause_spelled text (both a b) h =
    h.2 ∙ ap (λ w. codes "(" ++ w ++ codes " and " ++ h.1 ++ codes ")") (clause_spelled h.0 a h.3)
    ∙ ap (λ w. codes "(" ++ clause_text a ++ codes " and " ++ w ++ codes ")") (clause_spelled h.1 b h.4)
clause_spelled text (either a b) h =
    h.2 ∙ ap (λ w. codes "(" ++ w ++ codes " or " ++ h.1 ++ codes ")") (clause_spelled h.0 a h.3)
    ∙ ap (λ w. codes "(" ++ clause_text a ++ codes " or " ++ w ++ codes ")") (clause_spelled h.1 b h.4)
clause_spelled text (negated a) h = h.1 ∙ ap (λ w. codes "(not " ++ w ++ codes ")") (clause_spelled h.0 a h.2)

comparison_is : (rel : Rel) (n : ℕ) → n ≤ 1000000 → IsComparisonText (rel_sign rel ++ codes " " ++ decimal n) rel n
comparison_is rel n h = (decimal n, refl, decimal_is_numeral n (small n h), h)

pub clause_is : (f : Formula) → HasNumbersInRange f → IsClauseText (clause_text f) f
clause_is always h = refl
clause_is leader h = refl
clause_is active h = refl
clause_is passive h = refl
clause_is choosing h = refl
clause_is yielding h = refl
clause_is owes h = refl
clause_is (round rel n) h = (rel_sign rel ++ codes " " ++ decimal n, refl, comparison_is rel n h)
clause_is (id rel n) h = (rel_sign rel ++ codes " " ++ decimal n, refl, comparison_is rel n h)
clause_is (term rel n) h = (rel_sign rel ++ codes " " ++ decimal n, refl, comparison_is rel n h)
clause_is (both a b) h = (clause_text a, clause_text b, refl, clause_is a h.0, clause_is b h.1)
clause_is (either a b) h = (clause_text a, clause_text b, refl, clause_is a h.0, clause_is b h.1)
clause_is (negated a) h = (clause_text a, refl, clause_is a h)

-- ---- a spelling at the front is read

rel-again : (rel : Rel) (rest : List ℕ) → rel_at (rel_sign rel ++ codes " " ++ rest) ≡ Some (rel, rest)
rel-again Less rest = refl
rel-again Equal rest = refl
rel-again Greater rest = refl

limited-again : (text : List ℕ) (n : ℕ) (rest : List ℕ) → IsNumeral text n → n ≤ 1000000 → NoDigit rest
    → limited_at (text ++ rest) ≡ Some (n, rest)
limited-again text n rest is h stop =
    let whole : kept n ≡ n = omega arith in
    let within : nat_le n 1000000 ≡ true = grind (arith, nat_tests) in
    rw (kept-again text n rest is stop, whole, within) refl

comparison-again : (f : Rel → ℕ → Formula) (text : List ℕ) (rel : Rel) (n : ℕ) (rest : List ℕ)
    → IsComparisonText text rel n → NoDigit rest → comparison_at f (text ++ rest) ≡ Some (f rel n, rest)
comparison-again f text rel n rest h stop =
    let regrouped : text ++ rest ≡ rel_sign rel ++ codes " " ++ (h.0 ++ rest) =
    ap (λ w. w ++ rest) h.1 ∙ append_assoc (rel_sign rel ++ codes " ") h.0 rest in
    rw (regrouped, rel-again rel (h.0 ++ rest), limited-again h.0 n rest h.2 h.3 stop) refl

-- a clause doesn't begin with `not `
no-not : (f : Formula) (text more : List ℕ) → IsClauseText text f
    → after_word (codes "(not ") (codes "(" ++ (text ++ more)) ≡ None
no-not always text more h = rw h refl
no-not leader text more h = rw h refl
no-not active text more h = rw h refl
no-not passive text more h = rw h refl
no-not choosing text more h = rw h refl
no-not yielding text more h = rw h refl
no-not owes text more h = rw h refl
no-not (round rel n) text more h = rw h.1 refl
no-not (id rel n) text more h = rw h.1 refl
no-not (term rel n) text more h = rw h.1 refl
no-not (both a b) text more h = rw h.2 refl
no-not (either a b) text more h = rw h.2 refl
no-not (negated a) text more h = rw h.1 refl

opened-again : (d : ℕ) (x : List ℕ) (r : Formula × List ℕ) → after_word (codes "(not ") (codes "(" ++ x) ≡ None
    → joined_at (clause_at d) x ≡ Some r → clause_at (suc d) (codes "(" ++ x) ≡ Some r
opened-again d x r begins is =
    ap (λ o. then_or o (negated_at (clause_at d))
    (then_or (after_word (codes "(") (codes "(" ++ x)) (joined_at (clause_at d)) (atom_at (codes "(" ++ x)))) begins
    ∙ is

both-again : (inner : List ℕ → Option (Formula × List ℕ)) (a b : Formula) (left right rest : List ℕ)
    → inner (left ++ (codes " and " ++ (right ++ (codes ")" ++ rest))))
    ≡ Some (a, codes " and " ++ (right ++ (codes ")" ++ rest)))
    → inner (right ++ (codes ")" ++ rest)) ≡ Some (b, codes ")" ++ rest)
    → joined_at inner (left ++ (codes " and " ++ (right ++ (codes ")" ++ rest)))) ≡ Some (both a b, rest)
both-again inner a b left right rest p q = rw (p, q) refl

either-again : (inner : List ℕ → Option (Formula × List ℕ)) (a b : Formula) (left right rest : List ℕ)
    → inner (left ++ (codes " or " ++ (right ++ (codes ")" ++ rest))))
    ≡ Some (a, codes " or " ++ (right ++ (codes ")" ++ rest)))
    → inner (right ++ (codes ")" ++ rest)) ≡ Some (b, codes ")" ++ rest)
    → joined_at inner (left ++ (codes " or " ++ (right ++ (codes ")" ++ rest)))) ≡ Some (either a b, rest)
either-again inner a b left right rest p q = rw (p, q) refl

negated-again : (inner : List ℕ → Option (Formula × List ℕ)) (a : Formula) (text rest : List ℕ)
    → inner (text ++ (codes ")" ++ rest)) ≡ Some (a, codes ")" ++ rest)
    → negated_at inner (text ++ (codes ")" ++ rest)) ≡ Some (negated a, rest)
negated-again inner a text rest p = rw p refl

pub clause-again : (f : Formula) (d : ℕ) (text rest : List ℕ) → depth f ≤ d → IsClauseText text f → NoDigit rest
    → clause_at d (text ++ rest) ≡ Some (f, rest)
clause-again always zero text rest deep h stop = rw h refl
clause-again always (suc d) text rest deep h stop = rw h refl
clause-again leader zero text rest deep h stop = rw h refl
clause-again leader (suc d) text rest deep h stop = rw h refl
clause-again active zero text rest deep h stop = rw h refl
clause-again active (suc d) text rest deep h stop = rw h refl
clause-again passive zero text rest deep h stop = rw h refl
clause-again passive (suc d) text rest deep h stop = rw h refl
clause-again choosing zero text rest deep h stop = rw h refl
clause-again choosing (suc d) text rest deep h stop = rw h refl
clause-again yielding zero text rest deep h stop = rw h refl
clause-again yielding (suc d) text rest deep h stop = rw h refl
clause-again owes zero text rest deep h stop = rw h refl
clause-again owes (suc d) text rest deep h stop = rw h refl
clause-again (round rel n) zero text rest deep h stop = rw h.1 (comparison-again round h.0 rel n rest h.2 stop)
clause-again (round rel n) (suc d) text rest deep h stop = rw h.1 (comparison-again round h.0 rel n rest h.2 stop)
clause-again (id rel n) zero text rest deep h stop = rw h.1 (comparison-again id h.0 rel n rest h.2 stop)
clause-again (id rel n) (suc d) text rest deep h stop = rw h.1 (comparison-again id h.0 rel n rest h.2 stop)
clause-again (term rel n) zero text rest deep h stop = rw h.1 (comparison-again term h.0 rel n rest h.2 stop)
clause-again (term rel n) (suc d) text rest deep h stop = rw h.1 (comparison-again term h.0 rel n rest h.2 stop)
clause-again (both a b) zero text rest deep h stop = absurd (omega arith)
clause-again (both a b) (suc d) text rest deep h stop =
    let tail = codes " and " ++ (h.1 ++ (codes ")" ++ rest)) in
    let regrouped : text ++ rest ≡ codes "(" ++ (h.0 ++ tail) = ap (λ w. w ++ rest) h.2 ∙ simp append_assoc in
    let deep_a : depth a ≤ d = omega arith in
    let deep_b : depth b ≤ d = omega arith in
    let first = clause-again a d h.0 tail deep_a h.3 refl in
    let second = clause-again b d h.1 (codes ")" ++ rest) deep_b h.4 refl in
    ap (clause_at (suc d)) regrouped ∙ opened-again d (h.0 ++ tail) (
      both a b,
      rest,
    ) (no-not a h.0 tail h.3) (both-again (clause_at d) a b h.0 h.1 rest first second)
clause-again (either a b) zero text rest deep h stop = absurd (omega arith)
clause-again (either a b) (suc d) text rest deep h stop =
    let tail = codes " or " ++ (h.1 ++ (codes ")" ++ rest)) in
    let regrouped : text ++ rest ≡ codes "(" ++ (h.0 ++ tail) = ap (λ w. w ++ rest) h.2 ∙ simp append_assoc in
    let deep_a : depth a ≤ d = omega arith in
    let deep_b : depth b ≤ d = omega arith in
    let first = clause-again a d h.0 tail deep_a h.3 refl in
    let second = clause-again b d h.1 (codes ")" ++ rest) deep_b h.4 refl in
    ap (clause_at (suc d)) regrouped ∙ opened-again d (h.0 ++ tail) (
      either a b,
      rest,
    ) (no-not a h.0 tail h.3) (either-again (clause_at d) a b h.0 h.1 rest first second)
clause-again (negated a) zero text rest deep h stop = absurd (omega arith)
clause-again (negated a) (suc d) text rest deep h stop =
    let regrouped : text ++ rest ≡ codes "(not " ++ (h.0 ++ (codes ")" ++ rest)) =
    ap (λ w. w ++ rest) h.1 ∙ simp append_assoc in
    let deep_a : depth a ≤ d = omega arith in
    ap (clause_at (suc d)) regrouped
    ∙ negated-again (clause_at d) a h.0 rest (clause-again a d h.0 (codes ")" ++ rest) deep_a h.2 refl)

-- a text spells one clause
pub clause_same : (text : List ℕ) (f g : Formula) → IsClauseText text f → IsClauseText text g → f ≡ g
clause_same text f g h k =
    let d = depth f + depth g in
    let one = clause-again f d text [] (omega arith) h tt in
    let two = clause-again g d text [] (omega arith) k tt in
    let same : Some (f, []) ≡ Some (g, []) = sym one ∙ two in
    let pair : (f, []) ≡ (g, []) = same_Some _ _ same in
    ap (λ (p : Formula × List ℕ). p.0) pair

-- ---- one turn of the scan

pub clause_at_zero : (d : ℕ) (text : List ℕ) → d ≡ 0 → clause_at d text ≡ atom_at text
clause_at_zero d text e = ap (λ n. clause_at n text) e

pub clause_at_flat : (d : ℕ) (text : List ℕ) → after_word (codes "(not ") text ≡ None
    → after_word (codes "(") text ≡ None → clause_at d text ≡ atom_at text
clause_at_flat zero text p q = refl
clause_at_flat (suc d) text p q = rw (p, q) refl

pub clause_at_negated : (d : ℕ) (text rest : List ℕ) → 0 < d → after_word (codes "(not ") text ≡ Some rest
    → clause_at d text ≡ negated_at (clause_at (d - 1)) rest
clause_at_negated zero text rest some p = absurd (omega (arith, some))
clause_at_negated (suc d) text rest some p =
    let same : d ≡ suc d - 1 = omega arith in
    rw p (ap (λ n. negated_at (clause_at n) rest) same)

pub clause_at_joined : (d : ℕ) (text rest : List ℕ) → 0 < d → after_word (codes "(not ") text ≡ None
    → after_word (codes "(") text ≡ Some rest → clause_at d text ≡ joined_at (clause_at (d - 1)) rest
clause_at_joined zero text rest some p q = absurd (omega (arith, some))
clause_at_joined (suc d) text rest some p q =
    let same : d ≡ suc d - 1 = omega arith in
    rw (p, q) (ap (λ n. joined_at (clause_at n) rest) same)
