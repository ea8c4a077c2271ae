use Rattle.std.proofs.Common.{◌≡◌, sym, subst, ap, ◌∙◌}
use Rattle.std.specs.List.{enumerate_from, flat_map}
use Rattle.ira_event.specs.Sink.{Wrote}
use Rattle.ira_audit.specs.FindingsText.{case_line, findings_text}
use Rattle.ira_audit.proofs.findings_writer.write_findings.Goals as goal

pub returns-in-Cases : goal.returns-in-Cases
returns-in-Cases g c =
    let text : flat_map case_line (enumerate_from 0 c.deref.result.now) ≡ findings_text c.args.findings.now =
    ap (λ xs. flat_map case_line (enumerate_from 0 xs)) c.deref.ensures.value
    ∙ ap findings_text (sym c.in-Cases.is) in
    subst (λ t. Wrote c.write_cases.result t (g.W.Sink.state c.args.sink.now) (g.W.Sink.state c.write_cases.new.sink))
    text c.write_cases.ensures
