use Rattle.std.proofs.Common.{drop}
use Rattle.std.specs.List.{flat_map}
use Rattle.ira_event.proofs.Writing.{HasWritten}
use Rattle.ira_cert_text.specs.CertText.{section_text}
use Rattle.ira_cert_text.proofs.cert_writer.write_sections.Given as goal

abbrev pub invariant-loop-section : goal.invariant-loop-section
invariant-loop-section g l =
    HasWritten (flat_map section_text l.fn.sections) (flat_map section_text (drop l.section-index l.fn.sections))
    (g.W.Sink.state l.fn.sink) (g.W.Sink.state l.sink)
