use Rattle.std.proofs.Common.{◌∙◌, ◌++◌, ap}
use Rattle.ira_audit.specs.FindingsText.{findings_text}
use Rattle.ira_event.specs.Sink.{Memory}
use Rattle.ira_view.proofs.view_writer.findings_page.Goals as goal

pub returns-in-Ok : goal.returns-in-Ok
returns-in-Ok g c =
    let view = c.args.view.now in
    let whole = findings_text view.findings ++ view.explanation.page in (
      c.in-Ok.ensures.printable,
      c.in-Ok.ensures.wrote.took ∙ ap (λ (m : Memory). m.bytes ++ whole) c.new-text.ensures,
    )
