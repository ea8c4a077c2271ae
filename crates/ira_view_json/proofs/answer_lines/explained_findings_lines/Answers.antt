use Rattle.std.proofs.Common.{◌∷◌, IfOk, None, map, string_bytes, subst, sym}
use Rattle.std.specs.List.{enumerate_from}
use Rattle.ira_audit.specs.declared.answer.Answer.TheVariants.{No}
use Rattle.ira_view_json.specs.ExplainedFindings.{explained_case, explained_decision, explained_findings}
use Rattle.ira_view_json.specs.ExplainedValue.{explained_value}
use Rattle.ira_view_json.specs.Line.{AreLinesOf}
use Rattle.ira_view_json.proofs.LineTexts.{one_line_of}
use Rattle.ira_view_json.proofs.answer_lines.explained_findings_lines.Goals as goal

pub returns-in-Refused : goal.returns-in-Refused
returns-in-Refused g c =
    let status = c.args.status in
    let explanation = c.args.explanation.now in
    let r = c.explained_line.result in
    subst (λ findings. IfOk r (λ text. AreLinesOf (explained_findings status findings explanation) (string_bytes text)))
    (sym c.in-Refused.is)
    (one_line_of r string_bytes (explained_value status (No c.in-Refused.reason) explanation None)
    c.explained_line.ensures)

pub returns-in-Cases : goal.returns-in-Cases
returns-in-Cases g c =
    let status = c.args.status in
    let explanation = c.args.explanation.now in
    let r = c.explained_cases_lines.result in
    subst (λ findings. IfOk r (λ text. AreLinesOf (explained_findings status findings explanation) (string_bytes text)))
    (sym c.in-Cases.is)
    (subst (λ found. IfOk r (λ text. AreLinesOf (explained_decision status found explanation
    ∷ map (explained_case explanation.cases.items) (enumerate_from 0 found)) (string_bytes text)))
    c.deref.ensures.value c.explained_cases_lines.ensures)
