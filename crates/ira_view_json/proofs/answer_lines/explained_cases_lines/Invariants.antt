use Rattle.std.proofs.Common.{◌∷◌, drop, map, string_bytes}
use Rattle.std.specs.List.{enumerate_from}
use Rattle.ira_view_json.specs.ExplainedFindings.{explained_case, explained_decision}
use Rattle.ira_view_json.proofs.LineTexts.{Begins}
use Rattle.ira_view_json.proofs.answer_lines.explained_cases_lines.Given as goal

abbrev pub invariant-loop-case : goal.invariant-loop-case
invariant-loop-case g l =
    let value = explained_case l.explanation.cases.items in
    Begins (explained_decision l.status l.fn.found l.explanation ∷ map value (enumerate_from 0 l.fn.found))
    (map value (enumerate_from l.case (drop l.case l.fn.found))) (string_bytes l.text)
