use Rattle.std.proofs.Common.{◌≡◌, ◌∙◌, ◌++◌, [], List, None, Option, Some, ap, length, map, sym, ℕ}
use Rattle.std.proofs.lemmas.List.{length-map}
use Rattle.ira_event.specs.LogText.{log_text}
use Rattle.ira_event.specs.Sink.{Memory}
use Rattle.ira_audit.specs.Report.{report_line}
use Rattle.ira_audit.specs.declared.answer.Answer.TheVariants.{No}
use Rattle.ira_view.specs.Texts.{texts_of}
use Rattle.ira_commands.proofs.Served.{if_ok}
use Rattle.ira_commands.proofs.Shown.{left_good, left_no, no_answer, not_good}
use Rattle.ira_commands.specs.Begun.{bytes_of}
use Rattle.ira_commands.specs.Explain.{begun_heading}
use Rattle.ira_commands.proofs.show.tell_left.Goals as goal

-- the text of a page that is whole
abbrev text : Option (List ℕ) → List ℕ
text (Some page) = page
text None = []

pub name_texts-requires : goal.name_texts-requires
name_texts-requires g c =
    ap length c.deref.ensures.value ∙ sym (length-map c.in_ok-texts.texts.items (λ (m : Memory). m.bytes))
    ∙ ap length c.in_ok-texts.ensures ∙ length-map _ log_text ∙ c.requires.places

pub returns-in_ok-none-in-Good : goal.returns-in_ok-none-in-Good
returns-in_ok-none-in-Good g c =
    let texts = ap texts_of c.deref-2.ensures.value ∙ c.in_ok-named.ensures.texts_are ∙ ap bytes_of c.deref.ensures.value
    ∙ c.in_ok-texts.ensures in
    let good = rw (texts, c.in-Good.is) at c.in_ok-others.ensures in
    let before = c.in-Ok.ensures.took ∙ ap (λ (m : Memory). m.bytes ++ (report_line (No c.args.reason) ++ begun_heading)) c.new-text.ensures in
    let empty : Some c.in_ok-none-in-Good.none ≡ Some [] = sym c.in_ok-none-in-Good.ensures ∙ c.new.ensures in
    if_ok c.tell_page-in-Good.result (λ reply told. left_good c.args.reason c.args.begun.now c.in-Good.logs _ _ _ reply before
    (ap text empty) good c.at_end.ensures told) c.tell_page-in-Good.ensures

pub write_report-requires : goal.write_report-requires
write_report-requires g c =
    c.answer.ensures.reportable (texts_of c.deref-2.result.now) c.in_ok-others.ensures

pub returns-in-Ok-write_report : goal.returns-in-Ok-write_report
returns-in-Ok-write_report g c =
    let texts = ap texts_of c.deref-2.ensures.value ∙ c.in_ok-named.ensures.texts_are ∙ ap bytes_of c.deref.ensures.value
    ∙ c.in_ok-texts.ensures in
    let is = rw texts at c.in_ok-others.ensures in
    let before = c.in-Ok.ensures.took ∙ ap (λ (m : Memory). m.bytes ++ (report_line (No c.args.reason) ++ begun_heading)) c.new-text.ensures in
    let why = no_answer (map log_text c.args.begun.now) c.in_ok-others.others c.answer.result
    (not_good c.in_ok-others.others c.in_default-2.not-Good) is (λ b of. c.answer.ensures.answer _ b of) in
    left_no c.args.reason c.args.begun.now c.answer.result _ _ _ before c.in-Ok-write_report.ensures.took why c.printed.ensures
