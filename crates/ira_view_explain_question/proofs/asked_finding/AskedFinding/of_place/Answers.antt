use Rattle.std.proofs.Common.{refl}
use Rattle.ira_view_explain_question.proofs.asked_finding.AskedFinding.of_place.Goals as goal

pub returns : goal.returns
returns c = (
  c.line.result.now,
  c.digits_in_front-digits.result,
  c.line.ensures,
  rw (c.hinted.ensures, c.new.ensures, c.at-stop.ensures, c.note-beside.ensures) refl,
  c.digits_in_front-digits.ensures,
)
