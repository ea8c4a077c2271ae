use Rattle.std.proofs.Common.{length}
use Rattle.ira_cert_text.proofs.Reading.{HasSections}
use Rattle.ira_cert_text.proofs.cert_reader.read_sections.Given as goal

abbrev pub invariant-loop-sections : goal.invariant-loop-sections
invariant-loop-sections g l = HasSections l.fn.nodes l.fn.lines.rest l.sections.items l.lines

abbrev pub decreases-loop-sections : goal.decreases-loop-sections
decreases-loop-sections g l = length l.lines.rest
