use Rattle.std.proofs.Common.{drop}
use Rattle.std.specs.List.{flat_map}
use Rattle.ira_event.proofs.Writing.{HasWritten}
use Rattle.ira_cert_text.specs.CertText.{step_text}
use Rattle.ira_cert_text.proofs.cert_writer.write_steps.Given as goal

abbrev pub invariant-loop-step : goal.invariant-loop-step
invariant-loop-step g l =
    HasWritten (flat_map step_text l.fn.steps) (flat_map step_text (drop l.step-index l.fn.steps))
    (g.W.Sink.state l.fn.sink) (g.W.Sink.state l.sink)
