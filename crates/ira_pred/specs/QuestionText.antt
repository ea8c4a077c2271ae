-- The text of a question, as relations between a value and its spelling.
use Rattle.std.specs.Prelude.{◌≡◌, ℕ, ◌≤◌, List, [], ◌∷◌, ◌++◌, length, codes, decimal}
use Rattle.std.specs.List.{flat_map}
use Rattle.ira_pred.specs.Limits.{MAX_NUMBER, MAX_TEXT}
use Rattle.ira_event.specs.Numeral.{IsNumeral}
use Rattle.ira_pred.specs.declared.rel.Rel.{Rel}
use Rattle.ira_pred.specs.declared.rel.Rel.TheVariants.{Less, Equal, Greater}
use Rattle.ira_pred.specs.Formula.{Formula, always, leader, active, passive, choosing, yielding, owes, round, id, term}
use Rattle.ira_pred.specs.Formula.{both, either, negated}
use Rattle.ira_pred.specs.Case.{Conjunct}
use Rattle.ira_pred.specs.Question.{QuestionCases, IsQuestion}

-- the sign of a comparison
abbrev pub rel_sign : Rel → List ℕ
rel_sign Less = codes "<"
rel_sign Equal = codes "="
rel_sign Greater = codes ">"

-- the spelling of a comparison with n, which is at most `MAX_NUMBER`
abbrev pub IsComparisonText : List ℕ → Rel → ℕ → Type 0
IsComparisonText text rel n = (number : List ℕ) × (text ≡ rel_sign rel ++ codes " " ++ number) × IsNumeral number n
    × (n ≤ MAX_NUMBER)

-- the spelling of a clause
abbrev pub IsClauseText : List ℕ → Formula → Type 0
IsClauseText text always = text ≡ codes "true"
IsClauseText text leader = text ≡ codes "leader"
IsClauseText text active = text ≡ codes "active"
IsClauseText text passive = text ≡ codes "passive"
IsClauseText text choosing = text ≡ codes "choosing"
IsClauseText text yielding = text ≡ codes "yielding"
IsClauseText text owes = text ≡ codes "owes"
IsClauseText text (round rel n) = (rest : List ℕ) × (text ≡ codes "round " ++ rest) × IsComparisonText rest rel n
IsClauseText text (id rel n) = (rest : List ℕ) × (text ≡ codes "id " ++ rest) × IsComparisonText rest rel n
IsClauseText text (term rel n) = (rest : List ℕ) × (text ≡ codes "term " ++ rest) × IsComparisonText rest rel n
IsClauseText text (both a b) =
    (left : List ℕ) × (right : List ℕ) × (text ≡ codes "(" ++ left ++ codes " and " ++ right ++ codes ")")
    × IsClauseText left a × IsClauseText right b
IsClauseText text (either a b) =
    (left : List ℕ) × (right : List ℕ) × (text ≡ codes "(" ++ left ++ codes " or " ++ right ++ codes ")")
    × IsClauseText left a × IsClauseText right b
IsClauseText text (negated a) = (inner : List ℕ) × (text ≡ codes "(not " ++ inner ++ codes ")") × IsClauseText inner a

-- a line that begins with this number, a colon and a space, and goes on with the text
abbrev pub IsPlaced : List ℕ → ℕ → List ℕ → Type 0
IsPlaced line n text = (number : List ℕ) × (line ≡ number ++ codes ": " ++ text) × IsNumeral number n

-- the spelling of a conjunct, without its line feed
abbrev pub IsConjunctLine : List ℕ → Conjunct → Type 0
IsConjunctLine line c = (text : List ℕ) × IsPlaced line c.place text × IsClauseText text c.formula

-- the lines of these conjuncts, each with its line feed
abbrev pub AreConjunctLines : List ℕ → List Conjunct → Type 0
AreConjunctLines text [] = text ≡ []
AreConjunctLines text (c ∷ cs) =
    (line : List ℕ) × (rest : List ℕ) × (text ≡ line ++ codes "\n" ++ rest) × IsConjunctLine line c
    × AreConjunctLines rest cs

-- the line `case`, and the lines of its conjuncts
abbrev pub IsCaseText : List ℕ → List Conjunct → Type 0
IsCaseText text conjuncts = (lines : List ℕ) × (text ≡ codes "case\n" ++ lines) × AreConjunctLines lines conjuncts

-- the texts of these cases, one after the other
abbrev pub AreCaseTexts : List ℕ → List (List Conjunct) → Type 0
AreCaseTexts text [] = text ≡ []
AreCaseTexts text (c ∷ cs) =
    (first : List ℕ) × (rest : List ℕ) × (text ≡ first ++ rest) × IsCaseText first c × AreCaseTexts rest cs

-- the first two lines: version and ring size
abbrev pub IsQuestionHead : List ℕ → ℕ → Type 0
IsQuestionHead text nodes =
    (number : List ℕ) × (text ≡ codes "irask 1\n" ++ codes "nodes " ++ number ++ codes "\n") × IsNumeral number nodes

-- the text of a question: its head, its cases and the end line, all within the limits
pub record IsQuestionText (text : List ℕ) (q : QuestionCases) : Type 0 where
  pub head : List ℕ
  pub cases : List ℕ
  pub head_is : IsQuestionHead head q.nodes
  pub cases_are : AreCaseTexts cases q.cases
  pub parts : text ≡ head ++ cases ++ codes "end\n"
  pub short : length text ≤ MAX_TEXT
  pub valid : IsQuestion q

-- The same written out: numbers are plain decimal.

-- a clause
abbrev pub clause_text : Formula → List ℕ
clause_text always = codes "true"
clause_text leader = codes "leader"
clause_text active = codes "active"
clause_text passive = codes "passive"
clause_text choosing = codes "choosing"
clause_text yielding = codes "yielding"
clause_text owes = codes "owes"
clause_text (round rel n) = codes "round " ++ rel_sign rel ++ codes " " ++ decimal n
clause_text (id rel n) = codes "id " ++ rel_sign rel ++ codes " " ++ decimal n
clause_text (term rel n) = codes "term " ++ rel_sign rel ++ codes " " ++ decimal n
clause_text (both a b) = codes "(" ++ clause_text a ++ codes " and " ++ clause_text b ++ codes ")"
clause_text (either a b) = codes "(" ++ clause_text a ++ codes " or " ++ clause_text b ++ codes ")"
clause_text (negated a) = codes "(not " ++ clause_text a ++ codes ")"

-- a conjunct's line
abbrev pub conjunct_text : Conjunct → List ℕ
conjunct_text c = decimal c.place ++ codes ": " ++ clause_text c.formula ++ codes "\n"

-- a case
abbrev pub case_text : List Conjunct → List ℕ
case_text conjuncts = codes "case\n" ++ flat_map conjunct_text conjuncts

-- a question
abbrev pub question_text : QuestionCases → List ℕ
question_text q =
    codes "irask 1\n" ++ codes "nodes " ++ decimal q.nodes ++ codes "\n" ++ flat_map case_text q.cases ++ codes "end\n"

-- the question's text isn't too long
abbrev pub IsShort : QuestionCases → Type 0
IsShort q = length (question_text q) ≤ MAX_TEXT
