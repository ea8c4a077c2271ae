use Rattle.std.proofs.Common.{◌∙◌, inl, inr, refl, sym}
use Rattle.ira_view_explain_question.proofs.Clauses.{place_scanned, placed_there}
use Rattle.ira_view_explain_question.proofs.asked_lines.clause_of.Goals as goal

pub returns-in-Some : goal.returns-in-Some
returns-in-Some c = inl (placed_there c.args.line.now c.in-Some.clause.now _ c.in-Some.ensures)

pub returns-in-None : goal.returns-in-None
returns-in-None c = inr (
  λ place text placed. (let e = sym c.in-None.ensures ∙ place_scanned c.args.line.now text place placed in absurd cc),
  refl,
)
