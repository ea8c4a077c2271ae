use Rattle.std.proofs.Common.{[], refl, subst, sym, true}
use Rattle.ira_event.proofs.Writing.{Appends-nothing}
use Rattle.ira_view.proofs.Written.{text_written}
use Rattle.ira_view.specs.declared.form.Form.TheVariants.{Json, Words}
use Rattle.ira_view.specs.ViewText.{IsSumText}
use Rattle.ira_view.proofs.view_writer.write_sum.Goals as goal

pub returns-then-not-is_asked : goal.returns-then-not-is_asked
returns-then-not-is_asked g c = ([], rw c.if-not-is_asked.true refl, record { took = Appends-nothing _; same = refl })

pub returns-in_ok-sum_line-in-Json : goal.returns-in_ok-sum_line-in-Json
returns-in_ok-sum_line-in-Json g c =
    let Is = IsSumText true Json c.args.runs.now in
    rw (c.in-Json.is, c.if-not-is_asked.false) (text_written Is _ c.write_text.result _ _
    (subst Is (sym c.as_bytes.ensures.value) c.in_ok-sum_line-in-Json.ensures) c.write_text.ensures)

pub returns-in_ok-sum_page-in-Words : goal.returns-in_ok-sum_page-in-Words
returns-in_ok-sum_page-in-Words g c =
    let Is = IsSumText true Words c.args.runs.now in
    rw (c.in-Words.is, c.if-not-is_asked.false) (text_written Is _ c.write_text-in-Words.result _ _
    (subst Is (sym c.bytes-in-Words.ensures.text) c.in_ok-sum_page-in-Words.ensures) c.write_text-in-Words.ensures)
