use Rattle.std.proofs.Common.{◌∙◌, ap, refl, string_bytes, subst, sym}
use Rattle.std.proofs.lemmas.Result.{err_from_is_err_and}
use Rattle.ira_audit.specs.Report.{report_line}
use Rattle.ira_view_json.specs.AnswerValue.{answer_value}
use Rattle.ira_view_json.specs.Line.{IsLineOf}
use Rattle.ira_view.proofs.Written.{text_written}
use Rattle.ira_view.specs.Status.{status_number}
use Rattle.ira_view.specs.declared.form.Form.TheVariants.{Json}
use Rattle.ira_view.specs.ViewText.{IsAnswerText}
use Rattle.ira_view.proofs.view_writer.write_answer_as.Goals as goal

pub returns-in_ok-line-in-Json : goal.returns-in_ok-line-in-Json
returns-in_ok-line-in-Json g c =
    let answer = c.args.answer.now in
    let line = string_bytes c.in_ok-line-in-Json.line in
    let s = g.W.Sink.state c.args.sink.now in
    let t = g.W.Sink.state c.write_text.new.sink in
    let number = c.number.ensures ∙ ap status_number c.of_answer-status.ensures in
    let is = subst (λ n. IsLineOf (answer_value n answer) line) number c.in_ok-line-in-Json.ensures in
    rw c.in-Json.is (text_written (IsAnswerText Json answer) c.as_bytes.result.now c.write_text.result s t
    (subst (IsAnswerText Json answer) (sym c.as_bytes.ensures.value) is) c.write_text.ensures)

pub returns-in_ok-write_report-in-Words : goal.returns-in_ok-write_report-in-Words
returns-in_ok-write_report-in-Words g c =
    rw c.in-Words.is (report_line c.args.answer.now, refl, c.in_ok-write_report-in-Words.ensures)

pub returns-in_err-write_report-in-Words : goal.returns-in_err-write_report-in-Words
returns-in_err-write_report-in-Words g c =
    let p = err_from_is_err_and c.from_residual-in_err-write_report-in-Words.result
    c.from_residual-in_err-write_report-in-Words.ensures.1 in
    rw (c.in-Words.is, p.1, p.2) (report_line c.args.answer.now, refl, c.in_err-write_report-in-Words.ensures)
