use Rattle.ira_pred.proofs.Depths.{Counted}
use Rattle.ira_pred.proofs.question_lines.is_too_deep.Given as goal

abbrev pub invariant-loop-byte : goal.invariant-loop-byte
invariant-loop-byte l = Counted l.fn.text l.byte-index l.opened l.closed
