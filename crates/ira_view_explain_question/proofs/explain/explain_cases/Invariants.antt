use Rattle.std.proofs.Common.{ℕ, List, take}
use Rattle.std.specs.List.{AllZip}
use Rattle.ira_view_page.specs.Page.{Added}
use Rattle.ira_view_page.specs.Parts.{AreParts}
use Rattle.ira_view_explain_question.specs.ExplainedCase.{IsCaseOf, TellsCaseOf}
use Rattle.ira_view_explain_question.proofs.explain.explain_cases.Given as goal

abbrev pub invariant-loop-number : goal.invariant-loop-number
invariant-loop-number g l = record {
  cases : AllZip (IsCaseOf l.ring.files.question.now l.ring.asked.now) (take l.number-index l.told) l.cases.items;
  lines : List ℕ;
  told : AreParts (TellsCaseOf l.ring.files l.ring.asked.now l.found) (take l.number-index l.told) lines;
  added : Added l.initial.page lines l.page;
}
