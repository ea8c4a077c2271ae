use Rattle.std.proofs.Common.{arith}
use Rattle.ira_view_explain_question.proofs.AskedCases.{few_clauses}
use Rattle.ira_view_explain_question.proofs.explained_case.ExplainedCase.line.Goals as goal

pub overflow_add-result : goal.overflow_add-result
overflow_add-result g c =
    let case = c.args.self.now in
    omega (arith, c.requires, case.small, few_clauses case.case.now c.len-clauses.ensures.valid)
