use Rattle.std.proofs.Common.{◌∙◌, arith, inl, inr, sym}
use Rattle.ira_view_explain_question.proofs.Clauses.{place_scanned, placed_there}
use Rattle.ira_view_explain_question.proofs.asked_finding.AskedFinding.of_line.Goals as goal

pub returns-in-Some : goal.returns-in-Some
returns-in-Some c =
    let line = c.line-line.result.now in
    let clause = c.in-Some.clause.now in
    let placed = placed_there line clause c.in-Some.field-0-0 c.in-Some.ensures in
    let here = c.line-line.ensures (omega (arith, c.if-number-le-FIRST_CASE.false)) in
    inr (
      omega (arith, c.if-number-le-FIRST_CASE.false),
      (line, here, inr (placed.0, clause, placed.1, c.of_clause.ensures)),
    )

pub returns-in-None : goal.returns-in-None
returns-in-None c =
    let line = c.line-line.result.now in
    let here = c.line-line.ensures (omega (arith, c.if-number-le-FIRST_CASE.false)) in
    inr (
      omega (arith, c.if-number-le-FIRST_CASE.false),
      (
        line,
        here,
        inl (
          λ place clause placed. (let e = sym c.in-None.ensures ∙ place_scanned line clause place placed in absurd cc),
          rw c.with_slip-in-None.ensures (rw c.due-beside.ensures at c.whole_line-in-None.ensures),
        ),
      ),
    )
