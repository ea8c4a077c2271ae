use Rattle.std.proofs.Common.{◌≡◌, ◌∙◌, ◌++◌, IfOk, ap, subst, sym}
use Rattle.std.specs.Str.{IsUtf8}
use Rattle.json.specs.Json.{string}
use Rattle.ira_event.specs.Sink.{Memory}
use Rattle.ira_audit.specs.Report.{reason_words}
use Rattle.ira_view_page.proofs.Printables.{printable_is_text}
use Rattle.ira_view_json.specs.View.{view}
use Rattle.ira_view_json.proofs.AnswerWords.{printable_reason}
use Rattle.ira_view_json.proofs.answer_values.answer_words.Goals as goal

pub unreachable-requires : goal.unreachable-requires
unreachable-requires g c =
    let reason = c.in-No.reason in
    let bytes : c.bytes.result.now ≡ reason_words reason =
    c.bytes.ensures ∙ c.in-Ok.ensures.took ∙ ap (λ (m : Memory). m.bytes ++ c.reason_line.result) c.new-words.ensures
    ∙ c.reason_line.ensures.text in
    c.in-Err.ensures.cases.0
    (subst IsUtf8 (sym bytes) (printable_is_text (reason_words reason) (printable_reason reason)))

pub returns : goal.returns
returns g c =
    let reason = c.in-No.reason in
    let bytes : c.bytes.result.now ≡ reason_words reason =
    c.bytes.ensures ∙ c.in-Ok.ensures.took ∙ ap (λ (m : Memory). m.bytes ++ c.reason_line.result) c.new-words.ensures
    ∙ c.reason_line.ensures.text in
    rw c.in-No.is
    (subst (λ text. IfOk c.copied.result (λ value. view value ≡ string text))
    (c.in-Ok-from_utf8.ensures.cases.0 ∙ bytes) c.copied.ensures)
