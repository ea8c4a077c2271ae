use Rattle.std.proofs.Common.{take}
use Rattle.std.specs.List.{flat_map}
use Rattle.ira_view_page.specs.Page.{Added}
use Rattle.ira_view_explain_question.specs.EliminationLines.{elimination_text}
use Rattle.ira_view_explain_question.proofs.explained_case.ExplainedCase.print_eliminations.Given as goal

abbrev pub invariant-loop-elimination : goal.invariant-loop-elimination
invariant-loop-elimination g l =
    Added l.initial.page
    (flat_map (elimination_text l.self.ring.now.files.logs.now l.self.ring.now.asked.now.logs)
    (take l.elimination-index l.elimination-items)) l.page
