-- A text is a clause exactly where the question that asks it of one node is one.
use Rattle.std.proofs.Common.{◌≡◌, ◌<◌, ◌≤◌, ◌^◌, ℕ, Bool, IsTrue, nat_eq, List, [], ◌∷◌, ◌++◌, length, get_or}
use Rattle.std.proofs.Common.{Some, refl, sym, ap, subst, ◌∙◌, arith, append_assoc, length-append, inl, inr}
use Rattle.std.specs.Prelude.{All, codes, decimal, ◌↔◌}
use Rattle.std.proofs.lemmas.Bool.Decides.{nat_tests}
use Rattle.std.proofs.lemmas.List.{append_cancel_left, append_cancel_right, append-nil}
use Rattle.std.proofs.lemmas.List.Elements.{All-nil, All-cons, All-head}
use Rattle.std.proofs.lemmas.List.Kept.{AllPairs-cons}
use Rattle.std.proofs.lemmas.Option.{same_Some}
use Rattle.ira_event.specs.Scan.{number_at}
use Rattle.ira_event.proofs.Numerals.{number-again}
use Rattle.ira_event.proofs.Spelled.{decimal_is_numeral, numeral_is_decimal}
use Rattle.ira_event.specs.RingSize.{IsRingSize}
use Rattle.ira_pred.specs.Formula.{Formula}
use Rattle.ira_pred.specs.Case.{Conjunct, IsCase, IsConjunct}
use Rattle.ira_pred.specs.Question.{QuestionCases, IsQuestion}
use Rattle.ira_pred.specs.QuestionText.{IsQuestionText, clause_text, question_text}
use Rattle.ira_pred.proofs.QuestionTexts.{one_question, one_text}
use Rattle.ira_ask.specs.Asked.{asked_at}
use Rattle.ira_ask.specs.Reading.{IsClauseText}
use Rattle.ira_ask.specs.SentenceText.{IsClause}

-- a list of one list, and how long that is
one-of : {X : Type 0} (xs : List X) (n : ℕ) → n ≡ length xs
    → IsTrue (nat_eq n 1) ↔ ((x : X) × (xs ∷ [] ≡ (x ∷ []) ∷ []))
one-of [] n e = (
  λ t. let one : n ≡ 1 = grind (arith, nat_tests) in absurd (omega
      (arith, one, e)),
  λ h. let no = h.1 in cc,
)
one-of (x ∷ []) n e = (λ t. (x, refl), λ h. grind (arith, nat_tests, e))
one-of (x ∷ y ∷ zs) n e = (
  λ t. let one : n ≡ 1 = grind (arith, nat_tests) in absurd (omega (arith, one, e)),
  λ h. let no = h.1 in cc,
)

pub one_clause : {X : Type 0} (cases : List (List X)) (case : List X) (n : ℕ) → length cases ≡ 1
    → case ≡ get_or cases 0 case → n ≡ length case → IsTrue (nat_eq n 1) ↔ ((x : X) × (cases ≡ (x ∷ []) ∷ []))
one_clause [] case n long is e = absurd (omega (arith, long))
one_clause (xs ∷ []) case n long is e = one-of xs n (e ∙ ap length is)
one_clause (xs ∷ ys ∷ zs) case n long is e = absurd (omega (arith, long))

-- the question that asks it of node 0 of two nodes
abbrev pub probe : List ℕ → List ℕ
probe text = codes "irask 1\nnodes 2\ncase\n0: " ++ text ++ codes "\nend\n"

abbrev probed : Formula → QuestionCases
probed = asked_at 2 0

regrouped : (a d b c p s l n e : List ℕ) → a ++ d ++ b ++ ((c ++ ((p ++ s ++ l ++ n) ++ [])) ++ []) ++ e
    ≡ a ++ (d ++ (b ++ (c ++ (p ++ (s ++ (l ++ (n ++ e)))))))
regrouped a d b c p s l n e = simp (append_assoc, append-nil)

pub asked-one : (n : ℕ) (c : Conjunct) → question_text (record { nodes = n; cases = (c ∷ []) ∷ [] })
    ≡ codes "irask 1\nnodes " ++ (decimal n ++ (codes "\ncase\n" ++ (decimal c.place ++ (codes ": "
    ++ (clause_text c.formula ++ codes "\nend\n")))))
asked-one n c =
    regrouped (codes "irask 1\n" ++ codes "nodes ") (decimal n) (codes "\n") (codes "case\n") (decimal c.place)
    (codes ": ")
    (clause_text c.formula) (codes "\n") (codes "end\n")

probe-one : (text : List ℕ) → probe text ≡ codes "irask 1\nnodes " ++ (codes "2" ++ (codes "\ncase\n" ++ (codes "0"
    ++ (codes ": " ++ (text ++ codes "\nend\n")))))
probe-one text = refl

-- what follows a numeral in front
past_number : (n m : ℕ) (x y : List ℕ) → m < 2 ^ 64 → number_at (decimal m ++ y) ≡ Some (m, y)
    → Some (n, x) ≡ number_at (decimal m ++ y) → x ≡ y
past_number n m x y small is e =
    let pair : (n, x) ≡ (m, y) = same_Some (n, x) (m, y) (e ∙ is) in ap (λ (p : ℕ × List ℕ). p.1) pair

clause-of : (text : List ℕ) (n : ℕ) (c : Conjunct) → n < 2 ^ 64 → c.place < 2 ^ 64
    → probe text ≡ question_text (record { nodes = n; cases = (c ∷ []) ∷ [] }) → text ≡ clause_text c.formula
clause-of text n c small low e =
    let tail : List ℕ = codes ": " ++ (text ++ codes "\nend\n") in
    let other : List ℕ = codes ": " ++ (clause_text c.formula ++ codes "\nend\n") in
    let head = append_cancel_left (codes "irask 1\nnodes ") _ _ (sym (probe-one text) ∙ e ∙ asked-one n c) in
    let nodes = past_number 2 n (codes "\ncase\n" ++ (codes "0" ++ tail)) (codes "\ncase\n" ++
    (decimal c.place ++ other)) small
    (number-again (decimal n) n (codes "\ncase\n" ++ (decimal c.place ++ other)) (decimal_is_numeral n small) refl)
    (ap number_at head) in
    let line = append_cancel_left (codes "\ncase\n") _ _ nodes in
    let place = past_number 0 c.place tail other low
    (number-again (decimal c.place) c.place other (decimal_is_numeral c.place low) refl) (ap number_at line) in
    append_cancel_right text (clause_text c.formula) (codes "\nend\n") (append_cancel_left (codes ": ") _ _ place)

pub asked-is : (n p : ℕ) (f : Formula) → IsRingSize n → p < n → IsClause f → IsQuestion (asked_at n p f)
asked-is n p f size low h = record {
  size = size;
  some = omega arith;
  count = omega arith;
  cases_are = All-cons (IsCase n) (record { place = p; formula = f } ∷ []) [] (record {
    some = λ e. cc;
    conjuncts_are = record {
      each = All-cons (IsConjunct n) (record { place = p; formula = f }) []
          (record { in_ring = low; deep = h.1; numbers = h.0 }) (All-nil (IsConjunct n));
      rising = AllPairs-cons (λ a b. a.place < b.place) (record { place = p; formula = f }) []
          (All-nil (λ b. p < b.place)) (λ p q d lt within. absurd (omega arith));
    };
  }) (All-nil (IsCase n));
}

probe-is : (f : Formula) → probe (clause_text f) ≡ question_text (probed f)
probe-is f =
    let two : codes "2" ≡ decimal 2 =
    numeral_is_decimal (codes "2") 2 (inr (omega arith, omega arith, refl, refl)) (omega arith) in
    let zero : codes "0" ≡ decimal 0 = numeral_is_decimal (codes "0") 0 (inl (refl, refl, refl)) (omega arith) in
    let tail : List ℕ = codes ": " ++ (clause_text f ++ codes "\nend\n") in
    probe-one (clause_text f)
    ∙ ap (λ x. codes "irask 1\nnodes " ++ (x ++ (codes "\ncase\n" ++ (codes "0" ++ tail)))) two
    ∙ ap (λ x. codes "irask 1\nnodes " ++ (decimal 2 ++ (codes "\ncase\n" ++ (x ++ tail)))) zero
    ∙ sym (asked-one 2 (record { place = 0; formula = f }))

probed-text : (text : List ℕ) (f : Formula) → length text ≤ 1000000 → IsClause f → text ≡ clause_text f
    → IsQuestionText (probe text) (probed f)
probed-text text f short h e =
    let is : probe text ≡ question_text (probed f) = ap probe e ∙ probe-is f in
    let a = length-append (codes "irask 1\nnodes 2\ncase\n0: " ++ text) (codes "\nend\n") in
    let b = length-append (codes "irask 1\nnodes 2\ncase\n0: ") text in
    let long = ap length is in
    (one_text (probe text) (probed f)).1 (asked-is 2 0 f (omega arith, omega arith) (omega arith) h, omega (arith, a, b, long), is)

asked-clause : (q : QuestionCases) (c : Conjunct) → IsQuestion q → q.cases ≡ (c ∷ []) ∷ [] → IsConjunct q.nodes c
asked-clause q c h e =
    let cases = subst (λ x. All (IsCase q.nodes) x) e h.cases_are in
    All-head (IsConjunct q.nodes) c [] (All-head (IsCase q.nodes) (c ∷ []) [] cases).conjuncts_are.each

probe-clause : (text : List ℕ) (q : QuestionCases) (c : Conjunct) → IsQuestionText (probe text) q
    → q.cases ≡ (c ∷ []) ∷ [] → IsClauseText text
probe-clause text q c h e =
    let all = (one_text (probe text) q).0 h in
    let good = asked-clause q c all.0 e in
    let most = all.0.size.1 in
    let same : q ≡ record { nodes = q.nodes; cases = (c ∷ []) ∷ [] } = ap
    (λ x. record { nodes = q.nodes; cases = x }) e in (
      c.formula,
      (good.numbers, good.deep),
      clause-of text q.nodes c (omega (arith, most)) (omega (arith, most, good.in_ring))
          (all.2 ∙ ap question_text same),
    )

pub probe_read : (text : List ℕ) (q : QuestionCases) (asks : Bool) → length text ≤ 1000000 → IsQuestionText
    (probe text) q
    → IsTrue asks ↔ ((c : Conjunct) × (q.cases ≡ (c ∷ []) ∷ [])) → IsTrue asks ↔ IsClauseText text
probe_read text q asks short h is = (
  λ t. let c = is.0 t in probe-clause text q c.0 h c.1,
  λ k. let same = one_question (probe text) q (probed k.0) h (probed-text text k.0 short k.1 k.2) in
      is.1 (record { place = 0; formula = k.0 }, ap (λ (p : QuestionCases). p.cases) same),
)

pub probe_refused : (text : List ℕ) → length text ≤ 1000000 → ((q : QuestionCases) → ¬ (IsQuestionText (probe text) q))
    → ¬ (IsClauseText text)
probe_refused text short none k = none (probed k.0) (probed-text text k.0 short k.1 k.2)
