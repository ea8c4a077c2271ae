use Rattle.std.proofs.Common.{string_bytes, subst, sym}
use Rattle.ira_view_json.specs.ExplainedFindings.{explained_findings}
use Rattle.ira_view_json.specs.Line.{AreLinesOf}
use Rattle.ira_view.proofs.Written.{text_written}
use Rattle.ira_view.specs.Status.{status_number}
use Rattle.ira_view.specs.declared.form.Form.TheVariants.{Json, Words}
use Rattle.ira_view.specs.ViewText.{IsFindingsViewText}
use Rattle.ira_view.proofs.view_writer.write_findings_view_as.Goals as goal

pub returns-in_ok-lines-in-Json : goal.returns-in_ok-lines-in-Json
returns-in_ok-lines-in-Json g c =
    let findings = c.args.view.now.findings in
    let explanation = c.args.view.now.explanation in
    let status = c.of_findings-status.result in
    let s = g.W.Sink.state c.args.sink.now in
    let t = g.W.Sink.state c.write_text.new.sink in
    let lines = subst (λ n. AreLinesOf (explained_findings n findings explanation) (string_bytes c.in_ok-lines-in-Json.lines))
    c.number.ensures c.in_ok-lines-in-Json.ensures in
    let lent = subst (AreLinesOf (explained_findings (status_number status) findings explanation))
    (sym c.as_bytes.ensures.value) lines in
    rw c.in-Json.is (text_written (IsFindingsViewText Json findings explanation) c.as_bytes.result.now
    c.write_text.result s t (status, c.of_findings-status.ensures, lent) c.write_text.ensures)

pub returns-in_ok-text-in-Words : goal.returns-in_ok-text-in-Words
returns-in_ok-text-in-Words g c =
    let IsText = IsFindingsViewText Words c.args.view.now.findings c.args.view.now.explanation in
    let s = g.W.Sink.state c.args.sink.now in
    let t = g.W.Sink.state c.write_text-in-Words.new.sink in
    rw c.in-Words.is (text_written IsText c.bytes.result.now c.write_text-in-Words.result s t
    (subst IsText (sym c.bytes.ensures) c.in_ok-text-in-Words.ensures) c.write_text-in-Words.ensures)
