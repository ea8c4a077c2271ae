use Rattle.std.proofs.Common.{◌≡◌, ◌≤◌, ◌+◌, ◌*◌, drop, length}
use Rattle.std.specs.List.{flat_map}
use Rattle.ira_cert_text.specs.CertText.{section_text}
use Rattle.ira_cert_text.specs.Limits.{MAX_STEPS}
use Rattle.ira_cert_text.proofs.certificate.sections_len.Given as goal

abbrev pub invariant-loop-section : goal.invariant-loop-section
invariant-loop-section g l = record {
  parts : l.len + length (flat_map section_text (drop l.section-index l.fn.sections))
      ≡ length (flat_map section_text l.fn.sections);
  short : l.len ≤ (52 * MAX_STEPS + 25) * l.section-index;
}
