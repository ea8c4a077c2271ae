-- Helpers, no definitions: what stands after the head of a question's text, read line by line.
use Rattle.std.specs.Prelude.{◌≡◌, ◌≢◌, ℕ, ◌+◌, ◌<◌, ◌≤◌, ◌⊎◌, List, [], ◌++◌, length, codes, All, Result, Ok, Err}
use Rattle.ira_pred.specs.Limits.{MAX_CASES}
use Rattle.ira_pred.specs.declared.ask_fault.AskFault.{AskFault}
use Rattle.ira_pred.specs.declared.ask_fault.AskFault.TheVariants.{OutOfMemory, Depth}
use Rattle.ira_pred.specs.declared.question_line.QuestionLine.{QuestionLine}
use Rattle.ira_pred.specs.declared.question_line.QuestionLine.TheVariants.{Clause, Case, End}
use Rattle.ira_pred.specs.Case.{Conjunct, IsConjunct, IsCase}
use Rattle.ira_pred.specs.PlacedClause.{conjunct}
use Rattle.ira_pred.specs.QuestionText.{IsConjunctLine, AreCaseTexts}
use Rattle.ira_pred.specs.QuestionTextFault.{IsTooDeep, Spot, FirstLineFault, CaseLineFault, NextLineFault, CasesFault}

-- what was not read yet, and the number of the line that it begins with
pub record LinesLeft : Type 0 where
  pub rest : List ℕ
  pub number : ℕ

-- this line was read
pub record ReadsLine (old new : LinesLeft) (line : List ℕ) : Type 0 where
  pub rest : old.rest ≡ line ++ codes "\n" ++ new.rest
  pub number : new.number ≡ old.number + 1

-- where the first case is due, its first line was read, or a fault
abbrev pub ReadsFirst : {X : Type 0} → LinesLeft → LinesLeft → Result X AskFault → Type 0
ReadsFirst old new (Ok x) = ReadsLine old new (codes "case")
ReadsFirst old new (Err f) = NextLineFault (λ line more g. FirstLineFault line g) old.rest f

-- at a spot in a case a clause was read, or the first line of the next case, or the end line ends the
-- text, or a fault
abbrev pub ReadsInCase : {A : Type 0} → ℕ → Spot → LinesLeft → LinesLeft → Result (QuestionLine A) AskFault → Type 0
ReadsInCase nodes at old new (Ok (Clause c)) =
    (line : List ℕ) × ReadsLine old new line × IsConjunctLine line (conjunct c) × IsConjunct nodes (conjunct c)
    × All (λ d. d.place < c.place) at.conjuncts
ReadsInCase nodes at old new (Ok Case) = ReadsLine old new (codes "case") × (at.conjuncts ≢ [])
    × (at.cases + 1 < MAX_CASES)
ReadsInCase nodes at old new (Ok End) = (old.rest ≡ codes "end\n") × (at.conjuncts ≢ [])
ReadsInCase nodes at old new (Err f) = (f ≡ OutOfMemory) ⊎ NextLineFault (CaseLineFault nodes at) old.rest f

-- the fault of what follows the place in line `number`: it is too deep, or else there is another fault
abbrev pub ClauseFault : AskFault → ℕ → List ℕ → AskFault → Type 0
ClauseFault other number text f = (IsTooDeep text × (f ≡ Depth number)) ⊎ ((¬ (IsTooDeep text)) × (f ≡ other))

-- these cases are the whole text after a head, with the end line
pub record AreAllCases (nodes : ℕ) (text : List ℕ) (cases : List (List Conjunct)) : Type 0 where
  pub front : List ℕ
  pub cases_are : AreCaseTexts front cases
  pub some : 1 ≤ length cases
  pub count : length cases ≤ MAX_CASES
  pub valid : All (IsCase nodes) cases
  pub parts : text ≡ front ++ codes "end\n"

-- a reader of what stands after a head answered its cases, its fault, or out of memory
abbrev pub CasesRead : {X : Type 0} → ℕ → (X → List (List Conjunct)) → Result X AskFault → List ℕ → Type 0
CasesRead nodes view (Ok v) text = AreAllCases nodes text (view v)
CasesRead nodes view (Err f) text = (f ≡ OutOfMemory) ⊎ CasesFault nodes text f
