-- What a question asks.
use Rattle.std.specs.Prelude.{ℕ, ◌≤◌, List, length, All}
use Rattle.ira_pred.specs.Limits.{MAX_CASES}
use Rattle.ira_event.specs.RingSize.{IsRingSize}
use Rattle.ira_pred.specs.Case.{Conjunct, IsCase}

-- of a ring of so many nodes each of these cases is asked
pub record QuestionCases : Type 0 where
  pub nodes : ℕ
  pub cases : List (List Conjunct)

-- a ring size, and 1 to `MAX_CASES` cases of that ring
pub record IsQuestion (q : QuestionCases) : Type 0 where
  pub size : IsRingSize q.nodes
  pub some : 1 ≤ length q.cases
  pub count : length q.cases ≤ MAX_CASES
  pub cases_are : All (IsCase q.nodes) q.cases
