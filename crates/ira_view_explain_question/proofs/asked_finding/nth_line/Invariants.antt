use Rattle.std.proofs.Common.{◌≡◌, ◌<◌, ◌+◌}
use Rattle.ira_view_page.specs.Lines.{IsFromLine, whole_lines}
use Rattle.ira_view_explain_question.specs.SaidLines.{AreSaid}
use Rattle.ira_view_explain_question.proofs.asked_finding.nth_line.Given as goal

abbrev pub invariant-loop : goal.invariant-loop
invariant-loop l = record {
  from : IsFromLine l.file.text.now l.number l.rest;
  said : AreSaid l.file.text.now l.word l.number l.found;
  few : l.found < l.k;
  counted : l.number ≡ 3 + l.counter;
  end : l.end ≡ whole_lines l.file.text.now;
}
