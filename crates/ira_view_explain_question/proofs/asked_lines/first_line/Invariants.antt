use Rattle.std.proofs.Common.{◌≡◌, ◌+◌, ◌*◌, ◌≤◌, take}
use Rattle.ira_pred.specs.QuestionTextFault.{lines_of}
use Rattle.ira_view_explain_question.proofs.asked_lines.first_line.Given as goal

abbrev pub invariant-loop-case : goal.invariant-loop-case
invariant-loop-case g l = record {
  value : l.line ≡ 4 + lines_of (take l.case-index l.case-items);
  small : l.line ≤ 4 + 256 * l.case-index;
}
