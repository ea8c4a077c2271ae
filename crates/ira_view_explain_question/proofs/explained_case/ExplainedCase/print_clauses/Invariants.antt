use Rattle.std.proofs.Common.{ℕ, List}
use Rattle.ira_view_page.specs.Page.{Added}
use Rattle.ira_view_explain_question.specs.AskedLines.{AreClauseLines, listed_text}
use Rattle.ira_view_explain_question.proofs.explained_case.ExplainedCase.print_clauses.Given as goal

abbrev pub invariant-loop-n : goal.invariant-loop-n
invariant-loop-n g l =
    (lines : List (List ℕ))
    × AreClauseLines l.self.ring.now.files.question.now l.self.ring.now.asked.now.question.cases l.self.number l.n lines
    × Added l.initial.page (listed_text lines) l.page
