use Rattle.std.proofs.Common.{◌++◌, ap, arith, length, length-append}
use Rattle.std.specs.Prelude.{codes}
use Rattle.ira_view_explain_question.proofs.Clauses.{left_of_kept, place_kept}
use Rattle.ira_view_explain_question.proofs.question_finding.digits_in_front.Goals as goal

pub returns-in-Some : goal.returns-in-Some
returns-in-Some c = λ place digits clause parts is.
    let rest = left_of_kept _ _ _ _ _ c.in-Some.ensures (place_kept c.args.line.now digits clause place parts is) in
    omega (
      arith,
      c.saturating_sub.ensures,
      ap length rest,
      ap length parts,
      length-append (digits ++ codes ": ") clause,
      length-append digits (codes ": "),
      length-append (codes ": ") clause,
    )
