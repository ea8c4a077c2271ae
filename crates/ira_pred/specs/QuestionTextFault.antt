-- The fault of a text that is no question's: the first one, line by line.
use Rattle.std.specs.Prelude.{◌≡◌, ◌≢◌, ℕ, ◌+◌, ◌<◌, ◌≤◌, ◌⊎◌, List, [], ◌++◌, ◌==◌, length, codes, All, sum_by}
use Rattle.std.specs.Prelude.{count_by}
use Rattle.ira_pred.specs.Limits.{MAX_CASES, MAX_DEPTH, MAX_TEXT}
use Rattle.ira_event.specs.NextLine as next
use Rattle.ira_event.specs.RingSize.{IsRingSize}
use Rattle.ira_pred.specs.declared.ask_fault.AskFault.{AskFault}
use Rattle.ira_pred.specs.declared.ask_fault.AskFault.TheVariants.{TooLong, Head, Line, Place, Depth, Empty, Cases, Cut}
use Rattle.ira_pred.specs.declared.ask_fault.AskFault.TheVariants.{Trailing}
use Rattle.ira_pred.specs.Formula.{Formula}
use Rattle.ira_pred.specs.Case.{Conjunct, AreConjuncts, IsCase}
use Rattle.ira_pred.specs.QuestionText.{IsClauseText, IsPlaced, AreConjunctLines, AreCaseTexts, IsQuestionHead}

-- how many `(` the text has
abbrev pub opened : List ℕ → ℕ
opened text = count_by (λ c. c == 40) text

-- how many `)` the text has
abbrev pub closed : List ℕ → ℕ
closed text = count_by (λ c. c == 41) text

-- some front of the text has more than `MAX_DEPTH` `(` over its `)`
abbrev pub IsTooDeep : List ℕ → Type 0
IsTooDeep text = (front : List ℕ) × (back : List ℕ) × (text ≡ front ++ back) × (closed front + MAX_DEPTH < opened front)

-- the fault of a complete line that stands where the first `case` is due; it is line 3 of the text
pub data FirstLineFault (line : List ℕ) (f : AskFault) : Type 0 where
  -- the text asks nothing
  no_case : line ≡ codes "end" → f ≡ Cases → FirstLineFault line f
  -- it is neither of the two that may stand there
  other_line : line ≢ codes "case" → line ≢ codes "end" → f ≡ Line 3 → FirstLineFault line f

-- where in a case a line stands: it is line `number` of the text, `cases` are the cases before its own,
-- `conjuncts` what its case asks before it
pub record Spot : Type 0 where
  pub number : ℕ
  pub cases : ℕ
  pub conjuncts : List Conjunct

-- at the spot a clause for this place may follow
abbrev pub MayFollow : ℕ → Spot → ℕ → Type 0
MayFollow nodes at place = (place < nodes) × All (λ c. c.place < place) at.conjuncts

-- the fault of a complete line at the spot, with `more` after its line feed
pub data CaseLineFault (nodes : ℕ) (at : Spot) (line more : List ℕ) (f : AskFault) : Type 0 where
  -- it ends the case, which asks nothing
  empty : ((line ≡ codes "case") ⊎ (line ≡ codes "end")) → at.conjuncts ≡ [] → f ≡ Empty at.number
      → CaseLineFault nodes at line more f
  -- it begins one case more than is allowed
  too_many : line ≡ codes "case" → at.conjuncts ≢ [] → MAX_CASES ≤ at.cases + 1 → f ≡ Cases
      → CaseLineFault nodes at line more f
  -- it is none of `case`, `end`, and a number with a colon and a space after it
  no_place :
      line ≢ codes "case" → line ≢ codes "end" → ((n : ℕ) (text : List ℕ) → ¬ (IsPlaced line n text))
      → f ≡ Line at.number → CaseLineFault nodes at line more f
  -- its place isn't in the ring, or not above those before in the case
  wrong_place :
      (n : ℕ) (text : List ℕ) → IsPlaced line n text → ¬ (MayFollow nodes at n)
      → f ≡ Place at.number → CaseLineFault nodes at line more f
  -- what stands after its place is nested too deep
  too_deep :
      (n : ℕ) (text : List ℕ) → IsPlaced line n text → MayFollow nodes at n → IsTooDeep text
      → f ≡ Depth at.number → CaseLineFault nodes at line more f
  -- what stands after its place is no clause
  no_clause :
      (n : ℕ) (text : List ℕ) → IsPlaced line n text → MayFollow nodes at n → ¬ (IsTooDeep text)
      → ((g : Formula) → ¬ (IsClauseText text g)) → f ≡ Line at.number → CaseLineFault nodes at line more f
  -- it is the end line, and something follows it
  trailing : line ≡ codes "end" → at.conjuncts ≢ [] → more ≢ [] → f ≡ Trailing → CaseLineFault nodes at line more f

-- the fault of what stands where a line is due: Cut where no complete line does, else the fault of the line
abbrev pub NextLineFault : (List ℕ → List ℕ → AskFault → Type 0) → List ℕ → AskFault → Type 0
NextLineFault F rest f = next.NextLineFault Cut F rest f

-- the text begins with a head of the grammar whose ring size is in range, and goes on with the rest
pub record BeginsWithQuestionHead (text : List ℕ) (nodes : ℕ) (rest : List ℕ) : Type 0 where
  pub head : List ℕ
  pub head_is : IsQuestionHead head nodes
  pub size : IsRingSize nodes
  pub parts : text ≡ head ++ rest

-- the text begins with these cases, and of one more, whose `case` line was read, with these conjuncts,
-- all within the limits, and goes on with the rest
pub record BeginsInCase (nodes : ℕ) (text : List ℕ) (cases : List (List Conjunct)) (conjuncts : List Conjunct)
    (rest : List ℕ) : Type 0 where
  pub closed : List ℕ
  pub lines : List ℕ
  pub closed_are : AreCaseTexts closed cases
  pub lines_are : AreConjunctLines lines conjuncts
  pub count : length cases < MAX_CASES
  pub cases_are : All (IsCase nodes) cases
  pub conjuncts_are : AreConjuncts nodes conjuncts
  pub parts : text ≡ closed ++ codes "case\n" ++ lines ++ rest

-- how many lines these cases have
abbrev pub lines_of : List (List Conjunct) → ℕ
lines_of cases = sum_by (λ c. length c + 1) cases

-- where the line after these cases and these conjuncts stands: two lines of the head, those of the
-- cases, a `case` line and those of the conjuncts are before it
abbrev pub spot : List (List Conjunct) → List Conjunct → Spot
spot cases conjuncts = record {
  number = 2 + lines_of cases + 1 + length conjuncts + 1;
  cases = length cases;
  conjuncts = conjuncts;
}

-- the fault of what stands after the head
pub data CasesFault (nodes : ℕ) (text : List ℕ) (f : AskFault) : Type 0 where
  -- where the first `case` is due
  before_cases : NextLineFault (λ line more g. FirstLineFault line g) text f → CasesFault nodes text f
  -- in a case
  in_case :
      (cases : List (List Conjunct)) (conjuncts : List Conjunct) (rest : List ℕ)
      → BeginsInCase nodes text cases conjuncts rest
      → NextLineFault (CaseLineFault nodes (spot cases conjuncts)) rest f → CasesFault nodes text f

-- the fault of a text that isn't too long
pub data QuestionLinesFault (text : List ℕ) (f : AskFault) : Type 0 where
  -- it begins with no head
  no_head : ((nodes : ℕ) (rest : List ℕ) → ¬ (BeginsWithQuestionHead text nodes rest)) → f ≡ Head
      → QuestionLinesFault text f
  -- what stands after its head has a fault
  past_head : (nodes : ℕ) (rest : List ℕ) → BeginsWithQuestionHead text nodes rest → CasesFault nodes rest f
      → QuestionLinesFault text f

-- the fault of a text
abbrev pub QuestionTextFault : List ℕ → AskFault → Type 0
QuestionTextFault text f =
    ((MAX_TEXT < length text) × (f ≡ TooLong)) ⊎ ((length text ≤ MAX_TEXT) × QuestionLinesFault text f)
