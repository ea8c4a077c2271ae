-- A sentence's text is parted in one way.
use Rattle.std.proofs.Common.{◌≡◌, ◌<◌, ◌≤◌, ℕ, ◌^◌, List, [], ◌∷◌, ◌++◌, Option, Some, None, refl, sym, ap, subst}
use Rattle.std.proofs.Common.{◌∙◌, arith, append_assoc}
use Rattle.std.specs.Prelude.{codes, decimal}
use Rattle.std.proofs.lemmas.List.{append_cancel_left, append-nil}
use Rattle.ira_event.proofs.Numerals.{Lacks-numeral}
use Rattle.ira_event.proofs.Pieces.{Lacks, Lacks-append, split_same, first_differs}
use Rattle.ira_event.proofs.Spelled.{decimal_is_numeral}
use Rattle.ira_pred.specs.declared.rel.Rel.{Rel}
use Rattle.ira_pred.specs.declared.rel.Rel.TheVariants.{Less, Equal, Greater}
use Rattle.ira_pred.specs.Formula.{Formula, always, leader, active, passive, choosing, yielding, owes, round, id, term}
use Rattle.ira_pred.specs.Formula.{both, either, negated, HasNumbersInRange}
use Rattle.ira_pred.specs.QuestionText.{IsClauseText, clause_text, rel_sign}
use Rattle.ira_pred.proofs.ClauseTexts.{clause_is, clause_same}
use Rattle.ira_ask.specs.Sentence.{Parts}
use Rattle.ira_ask.specs.SentenceText.{BeginsWith, IsClause, IsTextOfParts, MayBeClause, part_text, parts_text}
use Rattle.ira_ask.specs.SentenceText.{sentence_text}

-- ---- a clause has no comma, and is known by its text

sign-lacks : (rel : Rel) → Lacks 44 (rel_sign rel)
sign-lacks Less = refl
sign-lacks Equal = refl
sign-lacks Greater = refl

comparison-lacks : (word : List ℕ) (rel : Rel) (n : ℕ) → Lacks 44 word → n ≤ 1000000
    → Lacks 44 (word ++ rel_sign rel ++ codes " " ++ decimal n)
comparison-lacks word rel n w h =
    let small : n < 2 ^ 64 = omega arith in
    Lacks-append 44 (word ++ rel_sign rel ++ codes " ") (decimal n)
    (Lacks-append 44 (word ++ rel_sign rel) (codes " ") (Lacks-append 44 word (rel_sign rel) w (sign-lacks rel)) refl)
    (Lacks-numeral 44 (decimal n) n (omega arith) (decimal_is_numeral n small))

joined-lacks : (left word right : List ℕ) → Lacks 44 left → Lacks 44 word → Lacks 44 right
    → Lacks 44 (codes "(" ++ left ++ word ++ right ++ codes ")")
joined-lacks left word right h w k =
    Lacks-append 44 (codes "(" ++ left ++ word ++ right) (codes ")")
    (Lacks-append 44 (codes "(" ++ left ++ word) right
    (Lacks-append 44 (codes "(" ++ left) word (Lacks-append 44 (codes "(") left refl h) w) k) refl

pub clause-lacks : (f : Formula) → HasNumbersInRange f → Lacks 44 (clause_text f)
clause-lacks always h = refl
clause-lacks leader h = refl
clause-lacks active h = refl
clause-lacks passive h = refl
clause-lacks choosing h = refl
clause-lacks yielding h = refl
clause-lacks owes h = refl
clause-lacks (round rel n) h = comparison-lacks (codes "round ") rel n refl h
clause-lacks (id rel n) h = comparison-lacks (codes "id ") rel n refl h
clause-lacks (term rel n) h = comparison-lacks (codes "term ") rel n refl h
clause-lacks (both a b) h =
    joined-lacks (clause_text a) (codes " and ") (clause_text b) (clause-lacks a h.0) refl (clause-lacks b h.1)
clause-lacks (either a b) h =
    joined-lacks (clause_text a) (codes " or ") (clause_text b) (clause-lacks a h.0) refl (clause-lacks b h.1)
clause-lacks (negated a) h =
    Lacks-append 44 (codes "(not " ++ clause_text a) (codes ")")
    (Lacks-append 44 (codes "(not ") (clause_text a) refl (clause-lacks a h)) refl

pub clause_known : (f g : Formula) → HasNumbersInRange f → HasNumbersInRange g → clause_text f ≡ clause_text g → f ≡ g
clause_known f g h k e =
    clause_same (clause_text g) f g (subst (λ t. IsClauseText t f) e (clause_is f h)) (clause_is g k)

-- ---- parts

pub part-regrouped : (word : List ℕ) (f : Formula) (more : List ℕ)
    → part_text word f ++ more ≡ word ++ (clause_text f ++ (44 ∷ 32 ∷ more))
part-regrouped word f more = simp append_assoc

-- a part of a word is known
pub part_same : (word : List ℕ) (f g : Formula) (x y : List ℕ) → IsClause f → IsClause g
    → part_text word f ++ x ≡ part_text word g ++ y → (f ≡ g) × (x ≡ y)
part_same word f g x y h k e =
    let stripped = append_cancel_left word _ _ (sym (part-regrouped word f x) ∙ e ∙ part-regrouped word g y) in
    let parted = split_same 44 (clause_text f) (clause_text g) (32 ∷ x) (32 ∷ y) (clause-lacks f h.0)
    (clause-lacks g k.0)
    stripped in
    (clause_known f g h.0 k.0 parted.0, append_cancel_left (codes " ") x y parted.1)

-- one part at the front
pub front_same : (word : List ℕ) (a b : Option Formula) (x y : List ℕ) → MayBeClause a → MayBeClause b
    → (a ≡ None → ¬ (BeginsWith word x)) → (b ≡ None → ¬ (BeginsWith word y))
    → parts_text word a ++ x ≡ parts_text word b ++ y → (a ≡ b) × (x ≡ y)
front_same word None None x y h k p q e = (refl, e)
front_same word (Some f) None x y h k p q e = absurd (q refl (f, x, h, sym e))
front_same word None (Some g) x y h k p q e = absurd (p refl (g, y, k, e))
front_same word (Some f) (Some g) x y h k p q e = let same = part_same word f g x y h k e in (ap Some same.0, same.1)

-- ---- sentences

-- the text of later parts doesn't begin with a part of a word before them

no_all : ¬ (BeginsWith (codes "all ") [])
no_all k = cc

no_each : (l : Option Formula) → ¬ (BeginsWith (codes "each other ") (parts_text (codes "all ") l))
no_each None k = cc
no_each (Some f) k = first_differs 101 97 _ _ refl (sym k.3)

no_other : (e l : Option Formula)
    → ¬ (BeginsWith (codes "other ") (parts_text (codes "each other ") e ++ parts_text (codes "all ") l))
no_other None None k = cc
no_other None (Some f) k = first_differs 111 97 _ _ refl (sym k.3)
no_other (Some f) l k = first_differs 111 101 _ _ refl (sym k.3)

no_any : (o e l : Option Formula) → ¬ (BeginsWith (codes "any ")
    (parts_text (codes "other ") o ++ (parts_text (codes "each other ") e ++ parts_text (codes "all ") l)))
no_any None None None k = cc
no_any None None (Some f) k = first_differs 110 108 _ _ refl (append_cancel_left (codes "a") _ _ (sym k.3))
no_any None (Some f) l k = first_differs 97 101 _ _ refl (sym k.3)
no_any (Some f) e l k = first_differs 97 111 _ _ refl (sym k.3)

sentence_made : (a b : Parts) → a.any ≡ b.any → a.other ≡ b.other → a.each_other ≡ b.each_other
    → a.all ≡ b.all → a ≡ b
sentence_made a b p q r s =
    ap (λ o. record { any = o; other = a.other; each_other = a.each_other; all = a.all }) p
    ∙ ap (λ o. record { any = b.any; other = o; each_other = a.each_other; all = a.all }) q
    ∙ ap (λ o. record { any = b.any; other = b.other; each_other = o; all = a.all }) r
    ∙ ap (λ o. record { any = b.any; other = b.other; each_other = b.each_other; all = o }) s

pub one_sentence : (text : List ℕ) (a b : Parts) → IsTextOfParts text a → IsTextOfParts text b → a ≡ b
one_sentence text a b h k =
    let any = front_same (codes "any ") a.any b.any _ _ h.parts.any_is k.parts.any_is
    (λ none. no_any a.other a.each_other a.all) (λ none. no_any b.other b.each_other b.all)
    (sym (regrouped a) ∙ sym h.spelled ∙ k.spelled ∙ regrouped b) in
    let other = front_same (codes "other ") a.other b.other _ _ h.parts.other_is k.parts.other_is
    (λ none. no_other a.each_other a.all) (λ none. no_other b.each_other b.all) any.1 in
    let each = front_same (codes "each other ") a.each_other b.each_other _ _ h.parts.each_other_is k.parts.each_other_is
    (λ none. no_each a.all) (λ none. no_each b.all) other.1 in
    let all = front_same (codes "all ") a.all b.all [] [] h.parts.all_is k.parts.all_is (λ none. no_all) (λ none. no_all)
    (append-nil (parts_text (codes "all ") a.all) ∙ each.1 ∙ sym (append-nil (parts_text (codes "all ") b.all))) in
    sentence_made a b any.0 other.0 each.0 all.0
  where
    regrouped : (s : Parts) → sentence_text s ≡ parts_text (codes "any ") s.any ++ (parts_text (codes "other ") s.other
        ++ (parts_text (codes "each other ") s.each_other ++ parts_text (codes "all ") s.all))
    regrouped s = simp append_assoc

pub ends-in-comma : (x : List ℕ) → [] ≡ x ++ codes ", " → ⊥
ends-in-comma [] e = cc
ends-in-comma (c ∷ cs) e = cc
