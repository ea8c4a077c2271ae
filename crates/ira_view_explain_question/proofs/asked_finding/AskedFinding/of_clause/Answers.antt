use Rattle.std.proofs.Common.{arith, refl}
use Rattle.ira_view_explain_question.proofs.asked_finding.AskedFinding.of_clause.Goals as goal

pub returns : goal.returns
returns c = (
  c.saturating_sub-byte.result,
  c.clause_stop-stop.result.due,
  omega (arith, c.saturating_sub-byte.ensures),
  rw (c.hinted.ensures, c.new.ensures, c.at.ensures, c.due-beside.ensures, c.words.ensures.text) refl,
)
