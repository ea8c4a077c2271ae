use Rattle.std.proofs.Common.{◌++◌, refl, subst, sym}
use Rattle.std.proofs.lemmas.Result.{err_from_is_err_and}
use Rattle.std.specs.Borrow.{Bor}
use Rattle.std.specs.Option.{option_map}
use Rattle.ira_audit.specs.Report.{report_line}
use Rattle.ira_view_election.specs.Election.{standing_of}
use Rattle.ira_view_election.specs.declared.election.Election.{Election}
use Rattle.ira_view.proofs.Written.{text_written}
use Rattle.ira_view.specs.declared.form.Form.TheVariants.{Json}
use Rattle.ira_view.specs.ViewText.{IsViewText}
use Rattle.ira_view.proofs.view_writer.write_view_as.Goals as goal

pub returns-in_ok-line-in-Json : goal.returns-in_ok-line-in-Json
returns-in_ok-line-in-Json g c =
    let view = c.args.view.now in
    let standing = option_map (λ (e : Bor (Election g.row.A.Denot)). standing_of e.now) c.args.election in
    let IsText = IsViewText Json view.answer view.explanation standing in
    let s = g.W.Sink.state c.args.sink.now in
    let t = g.W.Sink.state c.write_text.new.sink in
    rw c.in-Json.is (text_written IsText c.as_bytes.result.now c.write_text.result s t
    (subst IsText (sym c.as_bytes.ensures.value) c.in_ok-line-in-Json.ensures) c.write_text.ensures)

pub returns-in_ok-write_view-in-Words : goal.returns-in_ok-write_view-in-Words
returns-in_ok-write_view-in-Words g c =
    let view = c.args.view.now in
    rw c.in-Words.is (
      report_line view.answer ++ view.explanation.page,
      (c.bytes.ensures.printable, refl),
      rw c.bytes.ensures.text at c.in_ok-write_view-in-Words.ensures,
    )

pub returns-in_err-write_view-in-Words : goal.returns-in_err-write_view-in-Words
returns-in_err-write_view-in-Words g c =
    let view = c.args.view.now in
    let p = err_from_is_err_and c.from_residual-in_err-write_view-in-Words.result c.from_residual-in_err-write_view-in-Words.ensures.1 in
    rw (c.in-Words.is, p.1, p.2) (
      report_line view.answer ++ view.explanation.page,
      (c.bytes.ensures.printable, refl),
      rw c.bytes.ensures.text at c.in_err-write_view-in-Words.ensures,
    )
