use Rattle.std.proofs.Common.{drop, map, string_bytes}
use Rattle.std.specs.List.{enumerate_from}
use Rattle.ira_view_json.specs.AnswerValue.{case_value, cases_values}
use Rattle.ira_view_json.proofs.LineTexts.{Begins}
use Rattle.ira_view_json.proofs.answer_lines.cases_lines.Given as goal

abbrev pub invariant-loop-case : goal.invariant-loop-case
invariant-loop-case g l =
    Begins (cases_values l.fn.decided.nodes l.status l.cases)
    (map case_value (enumerate_from l.case (drop l.case l.cases))) (string_bytes l.text)
