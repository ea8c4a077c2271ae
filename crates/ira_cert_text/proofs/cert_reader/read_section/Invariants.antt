use Rattle.std.proofs.Common.{length}
use Rattle.ira_cert_text.specs.CertLines.{HasSteps}
use Rattle.ira_cert_text.proofs.cert_reader.read_section.Given as goal

abbrev pub invariant-loop-steps : goal.invariant-loop-steps
invariant-loop-steps g l = HasSteps l.fn.nodes l.fn.lines l.steps.items l.lines

abbrev pub decreases-loop-steps : goal.decreases-loop-steps
decreases-loop-steps g l = length l.lines.rest
