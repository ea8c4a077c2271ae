use Rattle.std.proofs.Common.{◌≡◌, ◌+◌, ◌-◌, min, take}
use Rattle.std.specs.Prelude.{◌^◌}
use Rattle.ira_cert_text.specs.CertTextFault.{lines_of}
use Rattle.ira_view_explain_question.proofs.section_finding.section_line.Given as goal

abbrev pub invariant-loop-section : goal.invariant-loop-section
invariant-loop-section g l = l.line ≡ min (4 + lines_of (take l.section-index l.section-items)) (2 ^ 64 - 1)
