-- A case that is explained.
use Rattle.std.specs.Prelude.{◌≡◌, ℕ, List, ◌++◌, Some, codes, decimal, slice_get, string_bytes}
use Rattle.ira_pred.specs.Case.{Conjunct}
use Rattle.ira_elim.specs.declared.found.Found.{Found}
use Rattle.ira_audit.specs.AskedQuestion.{AskedQuestion}
use Rattle.ira_view_page.specs.declared.asked_case.AskedCase.{AskedCase}
use Rattle.ira_view_page.specs.declared.asked_case.AskedNode.{AskedNode}
use Rattle.ira_view_page.specs.declared.named_text.NamedText.{NamedText}
use Rattle.ira_view_page.specs.Printable.{shown}
use Rattle.ira_view_page.specs.Parts.{AreOneForEach}
use Rattle.ira_view_explain_question.specs.declared.asked_files.AskedFiles.{AskedFiles}
use Rattle.ira_view_explain_question.specs.declared.case_finding.CaseFinding.{CaseFinding}
use Rattle.ira_view_explain_question.specs.AskedLines.{AreClausesTold, IsClauseAt, clause_line}
use Rattle.ira_view_explain_question.specs.CaseFinding.{IsCaseFinding, TellsFinding}

-- what clause n of the case of a number asks: of which node, in which line, and how the file spells it
pub record IsAskedNode {A : Type 0} (question : NamedText) (cases : List (List Conjunct)) (number n : ℕ) (c : Conjunct)
    (asks : AskedNode A) : Type 0 where
  pub node : asks.node ≡ c.place
  pub line : asks.line ≡ clause_line cases number n
  pub clause : List ℕ
  pub is_clause : IsClauseAt question cases number n clause
  pub clause_is : string_bytes asks.clause ≡ shown clause

-- the case of the number, and what it asks
abbrev pub IsAskedCase : {A : Type 0} → NamedText → List (List Conjunct) → ℕ → List Conjunct → AskedCase A → Type 0
IsAskedCase question cases number case value =
    (value.number ≡ number) × AreOneForEach (IsAskedNode question cases number) case value.asks.items

-- the same of a case of a question
abbrev pub IsCaseOf : {A : Type 0} → NamedText → AskedQuestion → ℕ → AskedCase A → Type 0
IsCaseOf question asked number value =
    (case : List Conjunct) × (slice_get asked.question.cases number ≡ Some case)
    × IsAskedCase question asked.question.cases number case value

-- the lines tell of the case of the number: what it asks, and why this was found
pub record TellsCase {A : Type 0} (files : AskedFiles) (asked : AskedQuestion) (number : ℕ) (found : Found A)
    (text : List ℕ) : Type 0 where
  pub case : List Conjunct
  pub is_case : slice_get asked.question.cases number ≡ Some case
  pub finding : CaseFinding A
  pub is_finding : IsCaseFinding asked.logs case found finding
  pub clauses : List ℕ
  pub are_clauses : AreClausesTold files.question.now asked.question.cases number case clauses
  pub lines : List ℕ
  pub tells : TellsFinding files asked number case finding lines
  pub is : text ≡ codes "\n  case " ++ decimal number ++ codes " (" ++ clauses ++ codes ")" ++ codes "\n" ++ lines

-- the same of what was found for the cases of a question
abbrev pub TellsCaseOf : {A : Type 0} → AskedFiles → AskedQuestion → List (Found A) → ℕ → List ℕ → Type 0
TellsCaseOf files asked all number text =
    (found : Found _) × (slice_get all number ≡ Some found) × TellsCase files asked number found text
