use Rattle.std.proofs.Common.{◌≡◌, ◌≤◌, ◌+◌, ◌*◌, drop, length}
use Rattle.std.specs.List.{flat_map}
use Rattle.ira_cert_text.specs.CertText.{step_text}
use Rattle.ira_cert_text.proofs.section.steps_len.Given as goal

abbrev pub invariant-loop-step : goal.invariant-loop-step
invariant-loop-step l = record {
  parts : l.len + length (flat_map step_text (drop l.step-index l.fn.steps)) ≡ length (flat_map step_text l.fn.steps);
  short : l.len ≤ 52 * l.step-index;
}
