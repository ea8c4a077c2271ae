use Rattle.ira_view_page.proofs.ForEach.{AreSoFar}
use Rattle.ira_view_explain_question.specs.ExplainedCase.{IsAskedNode}
use Rattle.ira_view_explain_question.proofs.explained_case.ExplainedCase.asked_case.Given as goal

abbrev pub invariant-loop-n : goal.invariant-loop-n
invariant-loop-n g l =
    AreSoFar (IsAskedNode l.self.ring.now.files.question.now l.self.ring.now.asked.now.question.cases l.self.number)
    l.self.case.now l.n l.asks.items
