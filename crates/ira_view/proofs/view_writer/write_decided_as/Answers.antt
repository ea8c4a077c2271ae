use Rattle.std.proofs.Common.{◌≡◌, ◌∙◌, string_bytes, subst, sym}
use Rattle.ira_audit.proofs.Counting.{lines_are}
use Rattle.ira_audit.specs.FindingsText.{findings_text}
use Rattle.ira_view_json.proofs.CasesValues.{values_are}
use Rattle.ira_view_json.specs.AnswerValue.{findings_values}
use Rattle.ira_view_json.specs.Line.{AreLinesOf}
use Rattle.ira_view.proofs.Statuses.{findings_status}
use Rattle.ira_view.proofs.Written.{text_written}
use Rattle.ira_view.specs.Status.{status_number}
use Rattle.ira_view.specs.declared.form.Form.TheVariants.{Json, Words}
use Rattle.ira_view.specs.ViewText.{IsFindingsText}
use Rattle.ira_view.proofs.view_writer.write_decided_as.Goals as goal

pub returns-in_ok-lines-in-Json : goal.returns-in_ok-lines-in-Json
returns-in_ok-lines-in-Json g c = λ certify findings are.
    let d = c.args.decided.now in
    let status = c.of_absent-status.result in
    let s = g.W.Sink.state c.args.sink.now in
    let t = g.W.Sink.state c.write_text.new.sink in
    let is = findings_status findings d.are_absent status are.absent c.of_absent-status.ensures.yes
    c.of_absent-status.ensures.no in
    let lines = subst (λ values. AreLinesOf values (string_bytes c.in_ok-lines-in-Json.lines))
    (values_are findings d.nodes c.number.result d.cases.items are.cases) c.in_ok-lines-in-Json.ensures in
    let numbered = subst (λ n. AreLinesOf (findings_values n findings) (string_bytes c.in_ok-lines-in-Json.lines))
    c.number.ensures lines in
    let lent = subst (AreLinesOf (findings_values (status_number status) findings)) (sym c.as_bytes.ensures.value)
    numbered in
    rw c.in-Json.is (text_written (IsFindingsText Json findings) c.as_bytes.result.now c.write_text.result s t
    (status, is, lent) c.write_text.ensures)

pub returns-in_ok-lines-in-Words : goal.returns-in_ok-lines-in-Words
returns-in_ok-lines-in-Words g c = λ certify findings are.
    let d = c.args.decided.now in
    let s = g.W.Sink.state c.args.sink.now in
    let t = g.W.Sink.state c.write_text-in-Words.new.sink in
    let text : c.bytes.result.now ≡ findings_text findings =
    c.bytes.ensures ∙ c.in_ok-lines-in-Words.ensures ∙ lines_are findings d.nodes d.cases.items are.cases in
    rw c.in-Words.is (text_written (IsFindingsText Words findings) c.bytes.result.now c.write_text-in-Words.result s t
    text c.write_text-in-Words.ensures)
