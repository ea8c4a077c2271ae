-- A text is a question's or has one fault, never two answers.
use Rattle.std.proofs.Common.{◌≡◌, ◌≢◌, ◌≤◌, ◌+◌, ◌⊎◌, ℕ, List, [], ◌∷◌, ◌++◌, length, refl, sym, ap, subst, ◌∙◌, arith}
use Rattle.std.proofs.Common.{append_assoc, inl, inr}
use Rattle.std.specs.Prelude.{All, codes}
use Rattle.std.proofs.lemmas.List.{append-nil, append_cancel_left}
use Rattle.std.proofs.lemmas.List.Elements.{All-nil, All-cons, All-head, All-tail}
use Rattle.ira_event.specs.NextLine.{HasNoLineFeed, cut, at_line}
use Rattle.ira_event.specs.Numeral.{IsNumeral}
use Rattle.ira_event.proofs.Numerals.{numeral_same, Lacks-numeral}
use Rattle.ira_event.proofs.NextLines.{next_faults_same}
use Rattle.ira_event.proofs.Pieces.{line_same, line_has_feed}
use Rattle.ira_pred.specs.declared.ask_fault.AskFault.{AskFault}
use Rattle.ira_pred.specs.declared.ask_fault.AskFault.TheVariants.{Line, Place, Depth, Empty, Cases, Cut, Trailing}
use Rattle.ira_pred.specs.Case.{Conjunct, IsCase}
use Rattle.ira_pred.specs.Limits.{MAX_CASES}
use Rattle.ira_pred.specs.Question.{QuestionCases}
use Rattle.ira_pred.specs.QuestionText.{IsPlaced, AreConjunctLines, AreCaseTexts, IsQuestionText}
use Rattle.ira_pred.specs.QuestionTextFault.{IsTooDeep, Spot, MayFollow, FirstLineFault, no_case, other_line}
use Rattle.ira_pred.specs.QuestionTextFault.{CaseLineFault, empty, too_many, no_place, wrong_place, too_deep, no_clause}
use Rattle.ira_pred.specs.QuestionTextFault.{trailing, NextLineFault, BeginsWithQuestionHead, BeginsInCase, spot}
use Rattle.ira_pred.specs.QuestionTextFault.{CasesFault, before_cases, in_case, QuestionLinesFault, no_head}
use Rattle.ira_pred.specs.QuestionTextFault.{past_head, QuestionTextFault}
use Rattle.ira_pred.proofs.QuestionTexts.{placed_same, case_unplaced, end_unplaced}
use Rattle.ira_pred.proofs.Walks.{Reading, Walk, Stops, walks_same, ReadsOn, reads_on, faults_stop, end_stops}

case_not_end : codes "case" ≡ codes "end" → ⊥
case_not_end e = cc

-- ---- the faults of one line

-- the fault of a line `case` or `end`
abbrev WordFault : Spot → List ℕ → AskFault → Type 0
WordFault at line f =
    (((line ≡ codes "case") ⊎ (line ≡ codes "end")) × (at.conjuncts ≡ []) × (f ≡ Empty at.number))
    ⊎ ((line ≡ codes "case") × (at.conjuncts ≢ []) × (f ≡ Cases))
    ⊎ ((line ≡ codes "end") × (at.conjuncts ≢ []) × (f ≡ Trailing))

-- the fault of a line with a place
abbrev PlacedFault : ℕ → Spot → ℕ → List ℕ → AskFault → Type 0
PlacedFault nodes at n text f =
    ((¬ (MayFollow nodes at n)) × (f ≡ Place at.number))
    ⊎ (MayFollow nodes at n × IsTooDeep text × (f ≡ Depth at.number))
    ⊎ (MayFollow nodes at n × (¬ (IsTooDeep text)) × (f ≡ Line at.number))

-- which of the two it is, or neither
data Sorted (nodes : ℕ) (at : Spot) (line : List ℕ) (f : AskFault) : Type 0 where
  word : WordFault at line f → Sorted nodes at line f
  placed : (n : ℕ) (text : List ℕ) → IsPlaced line n text → PlacedFault nodes at n text f → Sorted nodes at line f
  other : line ≢ codes "case" → line ≢ codes "end" → ((n : ℕ) (text : List ℕ) → ¬ (IsPlaced line n text))
      → f ≡ Line at.number → Sorted nodes at line f

sorted : (nodes : ℕ) (at : Spot) (line more : List ℕ) (f : AskFault) → CaseLineFault nodes at line more f
    → Sorted nodes at line f
sorted nodes at line more f (empty w none is) = word (inl (w, none, is))
sorted nodes at line more f (too_many w some many is) = word (inr (inl (w, some, is)))
sorted nodes at line more f (no_place a b none is) = other a b none is
sorted nodes at line more f (wrong_place n t p bad is) = placed n t p (inl (bad, is))
sorted nodes at line more f (too_deep n t p may deep is) = placed n t p (inr (inl (may, deep, is)))
sorted nodes at line more f (no_clause n t p may shallow none is) = placed n t p (inr (inr (may, shallow, is)))
sorted nodes at line more f (trailing w some follows is) = word (inr (inr (w, some, is)))

word_same : (at : Spot) (line : List ℕ) (f g : AskFault) → WordFault at line f → WordFault at line g → f ≡ g
word_same at line f g (inl a) (inl b) = a.2 ∙ sym b.2
word_same at line f g (inl a) (inr (inl b)) = absurd (b.1 a.1)
word_same at line f g (inl a) (inr (inr b)) = absurd (b.1 a.1)
word_same at line f g (inr (inl a)) (inl b) = absurd (a.1 b.1)
word_same at line f g (inr (inl a)) (inr (inl b)) = a.2 ∙ sym b.2
word_same at line f g (inr (inl a)) (inr (inr b)) = absurd (case_not_end (sym a.0 ∙ b.0))
word_same at line f g (inr (inr a)) (inl b) = absurd (a.1 b.1)
word_same at line f g (inr (inr a)) (inr (inl b)) = absurd (case_not_end (sym b.0 ∙ a.0))
word_same at line f g (inr (inr a)) (inr (inr b)) = a.2 ∙ sym b.2

placed_fault_same : (nodes : ℕ) (at : Spot) (n : ℕ) (text : List ℕ) (f g : AskFault) → PlacedFault nodes at n text f
    → PlacedFault nodes at n text g → f ≡ g
placed_fault_same nodes at n text f g (inl a) (inl b) = a.1 ∙ sym b.1
placed_fault_same nodes at n text f g (inl a) (inr (inl b)) = absurd (a.0 b.0)
placed_fault_same nodes at n text f g (inl a) (inr (inr b)) = absurd (a.0 b.0)
placed_fault_same nodes at n text f g (inr (inl a)) (inl b) = absurd (b.0 a.0)
placed_fault_same nodes at n text f g (inr (inl a)) (inr (inl b)) = a.2 ∙ sym b.2
placed_fault_same nodes at n text f g (inr (inl a)) (inr (inr b)) = absurd (b.1 a.1)
placed_fault_same nodes at n text f g (inr (inr a)) (inl b) = absurd (b.0 a.0)
placed_fault_same nodes at n text f g (inr (inr a)) (inr (inl b)) = absurd (a.1 b.1)
placed_fault_same nodes at n text f g (inr (inr a)) (inr (inr b)) = a.2 ∙ sym b.2

is_word : (at : Spot) (line : List ℕ) (f : AskFault) → WordFault at line f → (line ≡ codes "case")
    ⊎ (line ≡ codes "end")
is_word at line f (inl a) = a.0
is_word at line f (inr (inl a)) = inl a.0
is_word at line f (inr (inr a)) = inr a.0

word_unplaced : (line : List ℕ) (n : ℕ) (text : List ℕ) → (line ≡ codes "case") ⊎ (line ≡ codes "end")
    → IsPlaced line n text → ⊥
word_unplaced line n text (inl e) h = case_unplaced n text (subst (λ w. IsPlaced w n text) e h)
word_unplaced line n text (inr e) h = end_unplaced n text (subst (λ w. IsPlaced w n text) e h)

word_only : (line : List ℕ) → (line ≡ codes "case") ⊎ (line ≡ codes "end") → line ≢ codes "case" → line ≢ codes "end"
    → ⊥
word_only line (inl e) a b = a e
word_only line (inr e) a b = b e

sorted_same : (nodes : ℕ) (at : Spot) (line : List ℕ) (f g : AskFault) → Sorted nodes at line f → Sorted nodes at line g
    → f ≡ g
sorted_same nodes at line f g (word a) (word b) = word_same at line f g a b
sorted_same nodes at line f g (word a) (placed n t p b) = absurd (word_unplaced line n t (is_word at line f a) p)
sorted_same nodes at line f g (word a) (other x y none is) = absurd (word_only line (is_word at line f a) x y)
sorted_same nodes at line f g (placed n t p a) (word b) = absurd (word_unplaced line n t (is_word at line g b) p)
sorted_same nodes at line f g (placed n t p a) (placed m u q b) =
    let s = placed_same line n m t u p q in
    placed_fault_same nodes at m u f g
    (subst (λ w. PlacedFault nodes at m w f) s.1 (subst (λ k. PlacedFault nodes at k t f) s.0 a)) b
sorted_same nodes at line f g (placed n t p a) (other x y none is) = absurd (none n t p)
sorted_same nodes at line f g (other x y none is) (word b) = absurd (word_only line (is_word at line g b) x y)
sorted_same nodes at line f g (other x y none is) (placed n t p b) = absurd (none n t p)
sorted_same nodes at line f g (other x y none is) (other x' y' none' is') = is ∙ sym is'

line_faults_same : (nodes : ℕ) (at : Spot) (line more : List ℕ) (f g : AskFault) → CaseLineFault nodes at line more f
    → CaseLineFault nodes at line more g → f ≡ g
line_faults_same nodes at line more f g a b =
    sorted_same nodes at line f g (sorted nodes at line more f a) (sorted nodes at line more g b)

first_faults_same : (line more : List ℕ) (f g : AskFault) → FirstLineFault line f → FirstLineFault line g → f ≡ g
first_faults_same line more f g (no_case a is) (no_case b is') = is ∙ sym is'
first_faults_same line more f g (no_case a is) (other_line x y is') = absurd (y a)
first_faults_same line more f g (other_line x y is) (no_case b is') = absurd (y b)
first_faults_same line more f g (other_line x y is) (other_line x' y' is') = is ∙ sym is'

-- ---- the fault after a head

at_case : (line : List ℕ) (f : AskFault) → line ≡ codes "case" → FirstLineFault line f → ⊥
at_case line f e (no_case a is) = case_not_end (sym e ∙ a)
at_case line f e (other_line x y is) = x e

-- a text that begins with a `case` line has no fault there
begins_well : (text more : List ℕ) (f : AskFault) → text ≡ codes "case\n" ++ more
    → NextLineFault (λ line rest g. FirstLineFault line g) text f → ⊥
begins_well text more f e (cut whole is) = line_has_feed (codes "case") more (subst (λ t. HasNoLineFeed t) e whole)
begins_well text more f e (at_line line rest p feed h) =
    let s = line_same (codes "case") line more rest refl feed (sym e ∙ p) in at_case line f (sym s.0) h

-- two readings of a text that stop are one
readings_same : (nodes : ℕ) (text : List ℕ) (b d : Reading) (x y : List ℕ) (h : ReadsOn nodes [] text b x)
    (k : ReadsOn nodes [] text d y) → Stops nodes b x → Stops nodes d y → (b ≡ d) × (x ≡ y)
readings_same nodes text b d x y h k s t =
    let same = append_cancel_left (codes "case\n") h.more k.more (sym h.parts ∙ k.parts) in
    let start : Reading = record { cases = []; conjuncts = [] } in
    walks_same nodes h.lines k.lines start b d k.more x y (subst (λ w. Walk nodes h.lines start w b x) same h.walk)
    k.walk s t

abbrev reading : List (List Conjunct) → List Conjunct → Reading
reading cases conjuncts = record { cases = cases; conjuncts = conjuncts }

abbrev SpotFault : ℕ → Reading → List ℕ → AskFault → Type 0
SpotFault nodes r x f = NextLineFault (CaseLineFault nodes (spot r.cases r.conjuncts)) x f

cases_faults_same : (nodes : ℕ) (text : List ℕ) (f g : AskFault) → CasesFault nodes text f → CasesFault nodes text g
    → f ≡ g
cases_faults_same nodes text f g (before_cases a) (before_cases b) =
    next_faults_same Cut (λ line rest h. FirstLineFault line h) first_faults_same text f g a b
cases_faults_same nodes text f g (before_cases a) (in_case cases conjuncts rest b lf) =
    let r = reads_on nodes text cases conjuncts rest b in absurd (begins_well text r.more f r.parts a)
cases_faults_same nodes text f g (in_case cases conjuncts rest b lf) (before_cases a) =
    let r = reads_on nodes text cases conjuncts rest b in absurd (begins_well text r.more g r.parts a)
cases_faults_same nodes text f g (in_case cases conjuncts rest a lf) (in_case cases' conjuncts' rest' b lg) =
    let p = reading cases conjuncts in
    let q = reading cases' conjuncts' in
    let s = readings_same nodes text p q rest rest' (reads_on nodes text cases conjuncts rest a)
    (reads_on nodes text cases' conjuncts' rest' b) (faults_stop nodes p rest f lf) (faults_stop nodes q rest' g lg)
    in
    let moved = subst (λ w. SpotFault nodes q w f) s.1 (subst (λ r. SpotFault nodes r rest f) s.0 lf) in
    next_faults_same Cut (CaseLineFault nodes (spot cases' conjuncts'))
    (line_faults_same nodes (spot cases' conjuncts')) rest' f g moved lg

-- ---- the text of a question has no fault

-- the texts of cases are those of all but the last, and that of the last
record LastCase (nodes : ℕ) (text : List ℕ) (cases : List (List Conjunct)) : Type 0 where
  before : List (List Conjunct)
  last : List Conjunct
  closed : List ℕ
  lines : List ℕ
  parts : text ≡ closed ++ codes "case\n" ++ lines
  closed_are : AreCaseTexts closed before
  lines_are : AreConjunctLines lines last
  long : length before + 1 ≡ length cases
  before_are : All (IsCase nodes) before
  last_is : IsCase nodes last

last_case : (nodes : ℕ) (text : List ℕ) (c : List Conjunct) (cs : List (List Conjunct)) → All (IsCase nodes) (c ∷ cs)
    → AreCaseTexts text (c ∷ cs) → LastCase nodes text (c ∷ cs)
last_case nodes text c [] goods h = record {
  before = [];
  last = c;
  closed = [];
  lines = h.3.0;
  parts = h.2 ∙ ap (λ w. h.0 ++ w) h.4 ∙ append-nil h.0 ∙ h.3.1;
  closed_are = refl;
  lines_are = h.3.2;
  long = refl;
  before_are = All-nil (IsCase nodes);
  last_is = All-head (IsCase nodes) c [] goods;
}
last_case nodes text c (d ∷ ds) goods h =
    let r = last_case nodes h.1 d ds (All-tail (IsCase nodes) c (d ∷ ds) goods) h.4 in record {
      before = c ∷ r.before;
      last = r.last;
      closed = h.0 ++ r.closed;
      lines = r.lines;
      parts = h.2 ∙ ap (λ w. h.0 ++ w) r.parts ∙ simp append_assoc;
      closed_are = (h.0, r.closed, refl, h.3, r.closed_are);
      lines_are = r.lines_are;
      long = omega (arith, r.long);
      before_are = All-cons (IsCase nodes) c r.before (All-head (IsCase nodes) c (d ∷ ds) goods) r.before_are;
      last_is = r.last_is;
    }

some_last : (nodes : ℕ) (text : List ℕ) (cases : List (List Conjunct)) → 1 ≤ length cases → All (IsCase nodes) cases
    → AreCaseTexts text cases → LastCase nodes text cases
some_last nodes text [] some goods h = absurd (omega (arith, some))
some_last nodes text (c ∷ cs) some goods h = last_case nodes text c cs goods h

begins_last : (nodes : ℕ) (text : List ℕ) (cases : List (List Conjunct)) (r : LastCase nodes text cases)
    → length cases ≤ MAX_CASES → BeginsInCase nodes (text ++ codes "end\n") r.before r.last (codes "end\n")
begins_last nodes text cases r few = record {
  closed = r.closed;
  lines = r.lines;
  closed_are = r.closed_are;
  lines_are = r.lines_are;
  count = omega (arith, few, r.long);
  cases_are = r.before_are;
  conjuncts_are = r.last_is.conjuncts_are;
  parts = ap (λ w. w ++ codes "end\n") r.parts;
}

end_line_well : (nodes : ℕ) (at : Spot) (line more : List ℕ) (f : AskFault) → line ≡ codes "end" → more ≡ []
    → at.conjuncts ≢ [] → CaseLineFault nodes at line more f → ⊥
end_line_well nodes at line more f e none some (empty w nothing is) = some nothing
end_line_well nodes at line more f e none some (too_many w some' many is) = case_not_end (sym w ∙ e)
end_line_well nodes at line more f e none some (no_place x y unplaced is) = y e
end_line_well nodes at line more f e none some (wrong_place n t p bad is) = word_unplaced line n t (inr e) p
end_line_well nodes at line more f e none some (too_deep n t p may deep is) = word_unplaced line n t (inr e) p
end_line_well nodes at line more f e none some (no_clause n t p may shallow unspelled is) =
    word_unplaced line n t (inr e) p
end_line_well nodes at line more f e none some (trailing w some' follows is) = follows none

ends_well : (nodes : ℕ) (at : Spot) (f : AskFault) → at.conjuncts ≢ []
    → NextLineFault (CaseLineFault nodes at) (codes "end\n") f → ⊥
ends_well nodes at f some (cut whole is) = line_has_feed (codes "end") [] whole
ends_well nodes at f some (at_line line more p feed h) =
    let s = line_same (codes "end") line [] more refl feed p in
    end_line_well nodes at line more f (sym s.0) (sym s.1) some h

no_cases_fault : (nodes : ℕ) (text : List ℕ) (cases : List (List Conjunct)) (f : AskFault) → 1 ≤ length cases
    → length cases ≤ MAX_CASES → All (IsCase nodes) cases → AreCaseTexts text cases
    → CasesFault nodes (text ++ codes "end\n") f → ⊥
no_cases_fault nodes text cases f some few goods h (before_cases a) =
    let l = some_last nodes text cases some goods h in
    let r = reads_on nodes (text ++ codes "end\n") l.before l.last (codes "end\n") (begins_last nodes text cases l few)
    in
    begins_well (text ++ codes "end\n") r.more f r.parts a
no_cases_fault nodes text cases f some few goods h (in_case done conjuncts rest a lf) =
    let l = some_last nodes text cases some goods h in
    let r = reads_on nodes (text ++ codes "end\n") l.before l.last (codes "end\n") (begins_last nodes text cases l few)
    in
    let p = reading done conjuncts in
    let q = reading l.before l.last in
    let s = readings_same nodes (text ++ codes "end\n") p q rest (codes "end\n")
    (reads_on nodes (text ++ codes "end\n") done conjuncts rest a) r (faults_stop nodes p rest f lf)
    (end_stops nodes q) in
    let moved = subst (λ w. SpotFault nodes q w f) s.1 (subst (λ r. SpotFault nodes r rest f) s.0 lf) in
    ends_well nodes (spot l.before l.last) f l.last_is.some moved

-- ---- whole texts

head_parts : (text head rest number : List ℕ) → text ≡ head ++ rest
    → head ≡ codes "irask 1\n" ++ codes "nodes " ++ number ++ codes "\n"
    → text ≡ codes "irask 1\nnodes " ++ (number ++ codes "\n" ++ rest)
head_parts text head rest number p q = p ∙ ap (λ w. w ++ rest) q ∙ simp append_assoc

heads_same : (text : List ℕ) (n m : ℕ) (x y : List ℕ) → BeginsWithQuestionHead text n x
    → BeginsWithQuestionHead text m y → (n ≡ m) × (x ≡ y)
heads_same text n m x y h k =
    let stripped = append_cancel_left (codes "irask 1\nnodes ") _ _
    (sym (head_parts text h.head x h.head_is.0 h.parts h.head_is.1)
    ∙ head_parts text k.head y k.head_is.0 k.parts k.head_is.1) in
    let s = line_same h.head_is.0 k.head_is.0 x y (Lacks-numeral 10 h.head_is.0 n (omega arith) h.head_is.2)
    (Lacks-numeral 10 k.head_is.0 m (omega arith) k.head_is.2) stripped in
    (numeral_same k.head_is.0 n m (subst (λ t. IsNumeral t n) s.0 h.head_is.2) k.head_is.2, s.1)

head_of : (text : List ℕ) (q : QuestionCases) (h : IsQuestionText text q)
    → BeginsWithQuestionHead text q.nodes (h.cases ++ codes "end\n")
head_of text q h = record {
  head = h.head;
  head_is = h.head_is;
  size = h.valid.size;
  parts = h.parts ∙ append_assoc h.head h.cases (codes "end\n");
}

no_lines_fault : (text : List ℕ) (q : QuestionCases) (f : AskFault) → IsQuestionText text q → QuestionLinesFault text f
    → ⊥
no_lines_fault text q f h (no_head none is) = none q.nodes (h.cases ++ codes "end\n") (head_of text q h)
no_lines_fault text q f h (past_head nodes rest b cf) =
    let s = heads_same text nodes q.nodes rest (h.cases ++ codes "end\n") b (head_of text q h) in
    let moved = subst (λ w. CasesFault q.nodes w f) s.1 (subst (λ n. CasesFault n rest f) s.0 cf) in
    no_cases_fault q.nodes h.cases q.cases f h.valid.some h.valid.count h.valid.cases_are h.cases_are moved

pub question_or_fault : (text : List ℕ) (q : QuestionCases) (f : AskFault) → IsQuestionText text q
    → QuestionTextFault text f
    → ⊥
question_or_fault text q f h (inl long) = omega (arith, h.short, long.0)
question_or_fault text q f h (inr lines) = no_lines_fault text q f h lines.1

lines_faults_same : (text : List ℕ) (f g : AskFault) → QuestionLinesFault text f → QuestionLinesFault text g → f ≡ g
lines_faults_same text f g (no_head a p) (no_head b q) = p ∙ sym q
lines_faults_same text f g (no_head a p) (past_head n rest b cf) = absurd (a n rest b)
lines_faults_same text f g (past_head n rest b cf) (no_head a p) = absurd (a n rest b)
lines_faults_same text f g (past_head n rest b cf) (past_head m rest' b' cg) =
    let s = heads_same text n m rest rest' b b' in
    cases_faults_same m rest' f g (subst (λ w. CasesFault m w f) s.1 (subst (λ k. CasesFault k rest f) s.0 cf)) cg

pub one_fault : (text : List ℕ) (f g : AskFault) → QuestionTextFault text f → QuestionTextFault text g → f ≡ g
one_fault text f g (inl a) (inl b) = a.1 ∙ sym b.1
one_fault text f g (inl a) (inr b) = absurd (omega (arith, a.0, b.0))
one_fault text f g (inr a) (inl b) = absurd (omega (arith, a.0, b.0))
one_fault text f g (inr a) (inr b) = lines_faults_same text f g a.1 b.1
