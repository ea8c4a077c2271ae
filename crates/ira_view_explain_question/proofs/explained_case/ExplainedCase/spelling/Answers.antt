use Rattle.std.proofs.Common.{◌+◌, arith}
use Rattle.std.proofs.Math.Logic.{∥∥₁_map}
use Rattle.ira_view_explain_question.proofs.AskedCases.{few_clauses, line_on}
use Rattle.ira_view_explain_question.proofs.explained_case.ExplainedCase.spelling.Goals as goal

pub overflow_add-n : goal.overflow_add-n
overflow_add-n g c =
    let case = c.args.self.now in
    omega (arith, c.requires, few_clauses case.case.now c.len-clauses.ensures.valid)

pub returns : goal.returns
returns g c =
    let case = c.args.self.now in
    ∥∥₁_map case.lines_are (λ from.
    line_on case.ring.now.files.question.now.text.now case.lines.text.now c.line.result.now case.first (c.args.n + 1) _
    (omega (arith, case.first_is)) (omega (arith, case.first_is)) from (c.line.ensures (omega arith)))
