-- A question has one text, and a text is one question's.
use Rattle.std.proofs.Common.{◌≡◌, ◌≤◌, ◌⊎◌, ℕ, List, [], ◌∷◌, ◌++◌, length, refl, sym, ap, subst, ◌∙◌, arith}
use Rattle.std.proofs.Common.{append_assoc, inl, inr, Option, Some, None}
use Rattle.std.specs.Prelude.{All, codes, decimal, ◌↔◌}
use Rattle.std.specs.List.{flat_map}
use Rattle.std.proofs.lemmas.List.{append_cancel_left}
use Rattle.std.proofs.lemmas.List.Elements.{All-head, All-tail}
use Rattle.std.proofs.lemmas.Option.{same_Some}
use Rattle.ira_event.specs.Limits.{MAX_NODES}
use Rattle.ira_event.specs.NextLine.{HasNoLineFeed}
use Rattle.ira_event.specs.Numeral.{IsNumeral}
use Rattle.ira_event.proofs.Numerals.{number-again, numeral_same, Lacks-numeral}
use Rattle.ira_event.specs.Scan.{number_at}
use Rattle.ira_event.proofs.Pieces.{Lacks, Lacks-append, line_same, first_differs}
use Rattle.ira_event.proofs.Spelled.{numeral_is_decimal, decimal_is_numeral}
use Rattle.ira_pred.specs.declared.rel.Rel.{Rel}
use Rattle.ira_pred.specs.declared.rel.Rel.TheVariants.{Less, Equal, Greater}
use Rattle.ira_pred.specs.Formula.{Formula, always, leader, active, passive, choosing, yielding, owes, round, id, term}
use Rattle.ira_pred.specs.Formula.{both, either, negated}
use Rattle.ira_pred.specs.Case.{Conjunct, IsConjunct, IsCase}
use Rattle.ira_pred.specs.Question.{QuestionCases, IsQuestion}
use Rattle.ira_pred.specs.QuestionText.{rel_sign, IsClauseText, IsPlaced, IsConjunctLine, AreConjunctLines}
use Rattle.ira_pred.specs.QuestionText.{AreCaseTexts, IsQuestionText, conjunct_text, case_text, question_text, IsShort}
use Rattle.ira_pred.specs.QuestionText.{clause_text}
use Rattle.ira_pred.proofs.ClauseTexts.{clause_spelled, clause_is, clause_same}

-- ---- one text

conjunct_spelled : (nodes : ℕ) (line : List ℕ) (c : Conjunct) → nodes ≤ MAX_NODES → IsConjunct nodes c
    → IsConjunctLine line c → line ++ codes "\n" ≡ conjunct_text c
conjunct_spelled nodes line c most good h =
    let place : h.1.0 ≡ decimal c.place = numeral_is_decimal h.1.0 c.place h.1.2 (omega (arith, good.in_ring)) in
    let clause : h.0 ≡ clause_text c.formula = clause_spelled h.0 c.formula h.2 in
    ap (λ w. w ++ codes "\n") (h.1.1 ∙ ap (λ w. w ++ codes ": " ++ h.0) place
    ∙ ap (λ w. decimal c.place ++ codes ": " ++ w) clause)

conjunct_is : (nodes : ℕ) (c : Conjunct) → nodes ≤ MAX_NODES → IsConjunct nodes c
    → IsConjunctLine (decimal c.place ++ codes ": " ++ clause_text c.formula) c
conjunct_is nodes c most good = (
  clause_text c.formula,
  (decimal c.place, refl, decimal_is_numeral c.place (omega (arith, good.in_ring))),
  clause_is c.formula good.numbers,
)

lines_spelled : (nodes : ℕ) (text : List ℕ) (cs : List Conjunct) → nodes ≤ MAX_NODES → All (IsConjunct nodes) cs
    → AreConjunctLines text cs → text ≡ flat_map conjunct_text cs
lines_spelled nodes text [] most good h = h
lines_spelled nodes text (c ∷ cs) most good h =
    let first = conjunct_spelled nodes h.0 c most (All-head (IsConjunct nodes) c cs good) h.3 in
    let rest = lines_spelled nodes h.1 cs most (All-tail (IsConjunct nodes) c cs good) h.4 in
    h.2 ∙ ap (λ w. w ++ h.1) first ∙ ap (λ w. conjunct_text c ++ w) rest

lines_are : (nodes : ℕ) (cs : List Conjunct) → nodes ≤ MAX_NODES → All (IsConjunct nodes) cs
    → AreConjunctLines (flat_map conjunct_text cs) cs
lines_are nodes [] most good = refl
lines_are nodes (c ∷ cs) most good = (
  decimal c.place ++ codes ": " ++ clause_text c.formula,
  flat_map conjunct_text cs,
  refl,
  conjunct_is nodes c most (All-head (IsConjunct nodes) c cs good),
  lines_are nodes cs most (All-tail (IsConjunct nodes) c cs good),
)

cases_spelled : (nodes : ℕ) (text : List ℕ) (cases : List (List Conjunct)) → nodes ≤ MAX_NODES
    → All (IsCase nodes) cases → AreCaseTexts text cases → text ≡ flat_map case_text cases
cases_spelled nodes text [] most good h = h
cases_spelled nodes text (c ∷ cs) most good h =
    let case = All-head (IsCase nodes) c cs good in
    let lines = lines_spelled nodes h.3.0 c most case.conjuncts_are.each h.3.2 in
    let rest = cases_spelled nodes h.1 cs most (All-tail (IsCase nodes) c cs good) h.4 in
    h.2 ∙ ap (λ w. w ++ h.1) (h.3.1 ∙ ap (λ w. codes "case\n" ++ w) lines) ∙ ap (λ w. case_text c ++ w) rest

cases_are : (nodes : ℕ) (cases : List (List Conjunct)) → nodes ≤ MAX_NODES → All (IsCase nodes) cases
    → AreCaseTexts (flat_map case_text cases) cases
cases_are nodes [] most good = refl
cases_are nodes (c ∷ cs) most good = (
  case_text c,
  flat_map case_text cs,
  refl,
  (flat_map conjunct_text c, refl, lines_are nodes c most (All-head (IsCase nodes) c cs good).conjuncts_are.each),
  cases_are nodes cs most (All-tail (IsCase nodes) c cs good),
)

question_spelled : (text : List ℕ) (q : QuestionCases) → IsQuestionText text q → text ≡ question_text q
question_spelled text q h =
    let number = numeral_is_decimal h.head_is.0 q.nodes h.head_is.2 (omega (arith, h.valid.size.1)) in
    let head = h.head_is.1 ∙ ap (λ w. codes "irask 1\n" ++ codes "nodes " ++ w ++ codes "\n") number in
    let cases = cases_spelled q.nodes h.cases q.cases h.valid.size.1 h.valid.cases_are h.cases_are in
    h.parts ∙ ap (λ w. w ++ h.cases ++ codes "end\n") head
    ∙ ap (λ w. (codes "irask 1\n" ++ codes "nodes " ++ decimal q.nodes ++ codes "\n") ++ w ++ codes "end\n") cases

question_is : (q : QuestionCases) → IsQuestion q → IsShort q → IsQuestionText (question_text q) q
question_is q good short = record {
  head = codes "irask 1\n" ++ codes "nodes " ++ decimal q.nodes ++ codes "\n";
  cases = flat_map case_text q.cases;
  head_is = (decimal q.nodes, refl, decimal_is_numeral q.nodes (omega (arith, good.size.1)));
  cases_are = cases_are q.nodes q.cases good.size.1 good.cases_are;
  parts = refl;
  short = short;
  valid = good;
}

pub one_text : (text : List ℕ) (q : QuestionCases)
    → IsQuestionText text q ↔ (IsQuestion q × IsShort q × (text ≡ question_text q))
one_text text q = (
  λ h. let is = question_spelled text q h in (h.valid, subst (λ x. length x ≤ 67108864) is h.short, is),
  λ h. subst (λ x. IsQuestionText x q) (sym h.2) (question_is q h.0 h.1),
)

-- ---- clauses and lines have no line feed

sign_is_one_line : (rel : Rel) → Lacks 10 (rel_sign rel)
sign_is_one_line Less = refl
sign_is_one_line Equal = refl
sign_is_one_line Greater = refl

comparison_is_one_line : (word rest number text : List ℕ) (rel : Rel) (n : ℕ) → Lacks 10 word → text ≡ word ++ rest
    → rest ≡ rel_sign rel ++ codes " " ++ number → IsNumeral number n → Lacks 10 text
comparison_is_one_line word rest number text rel n w p q is =
    let space : Lacks 10 (codes " ") = refl in
    let sign = Lacks-append 10 (rel_sign rel) (codes " ") (sign_is_one_line rel) space in
    let all = Lacks-append 10 (rel_sign rel ++ codes " ") number sign (Lacks-numeral 10 number n (omega arith) is) in
    subst (Lacks 10) (sym (p ∙ ap (λ x. word ++ x) q))
    (Lacks-append 10 word (rel_sign rel ++ codes " " ++ number) w all)

joined_is_one_line : (word left right text : List ℕ) → Lacks 10 word
    → text ≡ codes "(" ++ left ++ word ++ right ++ codes ")" → Lacks 10 left → Lacks 10 right → Lacks 10 text
joined_is_one_line word left right text w p a b =
    let opening : Lacks 10 (codes "(") = refl in
    let close : Lacks 10 (codes ")") = refl in
    let one = Lacks-append 10 (codes "(") left opening a in
    let two = Lacks-append 10 (codes "(" ++ left) word one w in
    let three = Lacks-append 10 (codes "(" ++ left ++ word) right two b in
    subst (Lacks 10) (sym p) (Lacks-append 10 (codes "(" ++ left ++ word ++ right) (codes ")") three close)

pub clause_is_one_line : (text : List ℕ) (f : Formula) → IsClauseText text f → Lacks 10 text
clause_is_one_line text always h = rw h refl
clause_is_one_line text leader h = rw h refl
clause_is_one_line text active h = rw h refl
clause_is_one_line text passive h = rw h refl
clause_is_one_line text choosing h = rw h refl
clause_is_one_line text yielding h = rw h refl
clause_is_one_line text owes h = rw h refl
clause_is_one_line text (round rel n) h =
    comparison_is_one_line (codes "round ") h.0 h.2.0 text rel n refl h.1 h.2.1 h.2.2
clause_is_one_line text (id rel n) h = comparison_is_one_line (codes "id ") h.0 h.2.0 text rel n refl h.1 h.2.1 h.2.2
clause_is_one_line text (term rel n) h =
    comparison_is_one_line (codes "term ") h.0 h.2.0 text rel n refl h.1 h.2.1 h.2.2
clause_is_one_line text (both a b) h =
    joined_is_one_line (codes " and ") h.0 h.1 text refl h.2 (clause_is_one_line h.0 a h.3)
    (clause_is_one_line h.1 b h.4)
clause_is_one_line text (either a b) h =
    joined_is_one_line (codes " or ") h.0 h.1 text refl h.2 (clause_is_one_line h.0 a h.3)
    (clause_is_one_line h.1 b h.4)
clause_is_one_line text (negated a) h =
    let close : Lacks 10 (codes ")") = refl in
    let inner = Lacks-append 10 (codes "(not ") h.0 refl (clause_is_one_line h.0 a h.2) in
    subst (Lacks 10) (sym h.1) (Lacks-append 10 (codes "(not " ++ h.0) (codes ")") inner close)

pub conjunct_is_one_line : (line : List ℕ) (c : Conjunct) → IsConjunctLine line c → HasNoLineFeed line
conjunct_is_one_line line c h =
    let number = Lacks-numeral 10 h.1.0 c.place (omega arith) h.1.2 in
    let front = Lacks-append 10 h.1.0 (codes ": ") number refl in
    subst (Lacks 10) (sym h.1.1)
    (Lacks-append 10 (h.1.0 ++ codes ": ") h.0 front (clause_is_one_line h.0 c.formula h.2))

-- ---- no text is two questions

number_front : (line : List ℕ) (n : ℕ) (text : List ℕ) → IsPlaced line n text
    → number_at line ≡ Some (n, codes ": " ++ text)
number_front line n text h = ap number_at (h.1 ∙ append_assoc h.0 (codes ": ") text)
    ∙ number-again h.0 n (codes ": " ++ text) h.2 refl

-- a line has one place
pub placed_same : (line : List ℕ) (n m : ℕ) (t u : List ℕ) → IsPlaced line n t → IsPlaced line m u → (n ≡ m) × (t ≡ u)
placed_same line n m t u h k =
    let both = sym (number_front line n t h) ∙ number_front line m u k in
    let pair : (n, codes ": " ++ t) ≡ (m, codes ": " ++ u) = same_Some _ _ both in
    (ap (λ (p : ℕ × List ℕ). p.0) pair, append_cancel_left (codes ": ") t u (ap (λ (p : ℕ × List ℕ). p.1) pair))

pub nothing_is : {A : Type 0} (x : A) (o : Option A) → o ≡ Some x → o ≡ None → ⊥
nothing_is x (Some y) e f = cc
nothing_is x None e f = cc

-- the words of other lines have no place
pub case_unplaced : (n : ℕ) (text : List ℕ) → IsPlaced (codes "case") n text → ⊥
case_unplaced n text h = nothing_is _ (number_at (codes "case")) (number_front (codes "case") n text h) refl

pub end_unplaced : (n : ℕ) (text : List ℕ) → IsPlaced (codes "end") n text → ⊥
end_unplaced n text h = nothing_is _ (number_at (codes "end")) (number_front (codes "end") n text h) refl

conjunct_made : (c d : Conjunct) → c.place ≡ d.place → c.formula ≡ d.formula → c ≡ d
conjunct_made c d p f = ap (λ n. record { place = n; formula = c.formula }) p
    ∙ ap (λ g. record { place = d.place; formula = g }) f

pub conjunct_same : (line : List ℕ) (c d : Conjunct) → IsConjunctLine line c → IsConjunctLine line d → c ≡ d
conjunct_same line c d h k =
    let p = placed_same line c.place d.place h.0 k.0 h.1 k.1 in
    conjunct_made c d p.0 (clause_same k.0 c.formula d.formula (subst (λ t. IsClauseText t c.formula) p.1 h.2) k.2)

-- the text goes on with a `case` line, or is the end line
abbrev Closes : List ℕ → Type 0
Closes x = ((more : List ℕ) × (x ≡ codes "case\n" ++ more)) ⊎ (x ≡ codes "end\n")

closes_no_line : (x line rest : List ℕ) (c : Conjunct) → Closes x → IsConjunctLine line c
    → x ≡ line ++ codes "\n" ++ rest → ⊥
closes_no_line x line rest c (inl k) h e =
    let s = line_same (codes "case") line k.0 rest refl (conjunct_is_one_line line c h) (sym k.1 ∙ e) in
    case_unplaced c.place h.0 (subst (λ t. IsPlaced t c.place h.0) (sym s.0) h.1)
closes_no_line x line rest c (inr k) h e =
    let s = line_same (codes "end") line [] rest refl (conjunct_is_one_line line c h) (sym k ∙ e) in
    end_unplaced c.place h.0 (subst (λ t. IsPlaced t c.place h.0) (sym s.0) h.1)

-- the first line and the others, with what follows them
pub first_line : (text line others x : List ℕ) → text ≡ line ++ codes "\n" ++ others
    → text ++ x ≡ line ++ codes "\n" ++ (others ++ x)
first_line text line others x p = ap (λ w. w ++ x) p ∙ append_assoc (line ++ codes "\n") others x

lines_same : (c1 c2 : List Conjunct) (l1 l2 x1 x2 : List ℕ) → AreConjunctLines l1 c1 → AreConjunctLines l2 c2
    → Closes x1 → Closes x2 → l1 ++ x1 ≡ l2 ++ x2 → (c1 ≡ c2) × (x1 ≡ x2)
lines_same [] [] l1 l2 x1 x2 a b k m e = (refl, ap (λ w. w ++ x1) (sym a) ∙ e ∙ ap (λ w. w ++ x2) b)
lines_same [] (d ∷ ds) l1 l2 x1 x2 a b k m e =
    absurd (closes_no_line x1 b.0 (b.1 ++ x2) d k b.3 (ap (λ w. w ++ x1) (sym a) ∙ e ∙ first_line l2 b.0 b.1 x2 b.2))
lines_same (c ∷ cs) [] l1 l2 x1 x2 a b k m e =
    absurd (closes_no_line x2 a.0 (a.1 ++ x1) c m a.3 (ap (λ w. w ++ x2) (sym b) ∙ sym e
    ∙ first_line l1 a.0 a.1 x1 a.2))
lines_same (c ∷ cs) (d ∷ ds) l1 l2 x1 x2 a b k m e =
    let s = line_same a.0 b.0 (a.1 ++ x1) (b.1 ++ x2) (conjunct_is_one_line a.0 c a.3) (conjunct_is_one_line b.0 d b.3)
    (sym (first_line l1 a.0 a.1 x1 a.2) ∙ e ∙ first_line l2 b.0 b.1 x2 b.2) in
    let first : c ≡ d = conjunct_same b.0 c d (subst (λ t. IsConjunctLine t c) s.0 a.3) b.3 in
    let rest = lines_same cs ds a.1 b.1 x1 x2 a.4 b.4 k m s.1 in
    (ap (λ y. y ∷ cs) first ∙ ap (λ ys. d ∷ ys) rest.0, rest.1)

closes_cases : (cases : List (List Conjunct)) (text : List ℕ) → AreCaseTexts text cases → Closes (text ++ codes "end\n")
closes_cases [] text h = inr (ap (λ w. w ++ codes "end\n") h)
closes_cases (c ∷ cs) text h =
    inl (h.3.0 ++ h.1 ++ codes "end\n", ap (λ w. w ++ codes "end\n") (h.2 ∙ ap (λ w. w ++ h.1) h.3.1))

case_front : (text first lines rest : List ℕ) → text ≡ first ++ rest → first ≡ codes "case\n" ++ lines
    → text ++ codes "end\n" ≡ codes "case\n" ++ (lines ++ (rest ++ codes "end\n"))
case_front text first lines rest p q = ap (λ w. w ++ codes "end\n") (p ∙ ap (λ w. w ++ rest) q) ∙ simp append_assoc

no_case_end : (x : List ℕ) → codes "end\n" ≡ codes "case\n" ++ x → ⊥
no_case_end x e = first_differs 101 99 _ _ refl e

cases_same : (a b : List (List Conjunct)) (t u : List ℕ) → AreCaseTexts t a → AreCaseTexts u b
    → t ++ codes "end\n" ≡ u ++ codes "end\n" → a ≡ b
cases_same [] [] t u h k e = refl
cases_same [] (d ∷ ds) t u h k e =
    absurd (no_case_end _ (ap (λ w. w ++ codes "end\n") (sym h) ∙ e ∙ case_front u k.0 k.3.0 k.1 k.2 k.3.1))
cases_same (c ∷ cs) [] t u h k e =
    absurd (no_case_end _ (ap (λ w. w ++ codes "end\n") (sym k) ∙ sym e ∙ case_front t h.0 h.3.0 h.1 h.2 h.3.1))
cases_same (c ∷ cs) (d ∷ ds) t u h k e =
    let stripped = append_cancel_left (codes "case\n") _ _ (sym (case_front t h.0 h.3.0 h.1 h.2 h.3.1) ∙ e
    ∙ case_front u k.0 k.3.0 k.1 k.2 k.3.1) in
    let lines = lines_same c d h.3.0 k.3.0 (h.1 ++ codes "end\n") (k.1
    ++ codes "end\n") h.3.2 k.3.2 (closes_cases cs h.1 h.4) (closes_cases ds k.1 k.4) stripped in
    let rest = cases_same cs ds h.1 k.1 h.4 k.4 lines.1 in
    ap (λ y. y ∷ cs) lines.0 ∙ ap (λ ys. d ∷ ys) rest

head_front : (text head cases number : List ℕ) → text ≡ head ++ cases ++ codes "end\n"
    → head ≡ codes "irask 1\n" ++ codes "nodes " ++ number ++ codes "\n"
    → text ≡ codes "irask 1\nnodes " ++ (number ++ codes "\n" ++ (cases ++ codes "end\n"))
head_front text head cases number p q = p ∙ ap (λ w. w ++ cases ++ codes "end\n") q ∙ simp append_assoc

asked_made : (a b : QuestionCases) → a.nodes ≡ b.nodes → a.cases ≡ b.cases → a ≡ b
asked_made a b n c = ap (λ m. record { nodes = m; cases = a.cases }) n
    ∙ ap (λ x. record { nodes = b.nodes; cases = x }) c

pub one_question : (text : List ℕ) (a b : QuestionCases) → IsQuestionText text a → IsQuestionText text b → a ≡ b
one_question text a b h k =
    let stripped = append_cancel_left (codes "irask 1\nnodes ") _ _
    (sym (head_front text h.head h.cases h.head_is.0 h.parts h.head_is.1)
    ∙ head_front text k.head k.cases k.head_is.0 k.parts k.head_is.1) in
    let lines = line_same h.head_is.0 k.head_is.0 (h.cases ++ codes "end\n") (k.cases
    ++ codes "end\n") (Lacks-numeral 10 h.head_is.0 a.nodes (omega arith) h.head_is.2)
    (Lacks-numeral 10 k.head_is.0 b.nodes (omega arith) k.head_is.2) stripped in
    let nodes = numeral_same k.head_is.0 a.nodes b.nodes (subst (λ t. IsNumeral t a.nodes) lines.0 h.head_is.2)
    k.head_is.2 in
    asked_made a b nodes (cases_same a.cases b.cases h.cases k.cases h.cases_are k.cases_are lines.1)
