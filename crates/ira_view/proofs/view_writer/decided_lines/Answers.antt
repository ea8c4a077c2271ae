use Rattle.std.proofs.Common.{◌∙◌, ◌++◌, ap}
use Rattle.std.specs.List.{enumerate_from, flat_map}
use Rattle.ira_audit.specs.FindingsText.{decided_line}
use Rattle.ira_event.specs.Sink.{Memory}
use Rattle.ira_view.proofs.view_writer.decided_lines.Goals as goal

pub returns-in-Ok : goal.returns-in-Ok
returns-in-Ok g c =
    let lines = flat_map decided_line (enumerate_from 0 c.args.decided.now.cases.items) in
    c.in-Ok.ensures.took ∙ ap (λ (m : Memory). m.bytes ++ lines) c.new-lines.ensures
