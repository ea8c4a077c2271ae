use Rattle.std.proofs.Common.{◌≡◌, ◌∙◌}
use Rattle.std.proofs.lemmas.Result.{err_from_is_err_and}
use Rattle.ira_cert_text.proofs.Reading.{step_was_read, steps_refused}
use Rattle.ira_cert_text.proofs.cert_reader.read_section.Goals as goal

pub returns-in_err-step : goal.returns-in_err-step
returns-in_err-step g c =
    let p = err_from_is_err_and c.from_residual.result c.from_residual.ensures.1 in
    let same : p.0 ≡ c.in_err-step.field-0.0 = p.2 in
    rw (p.1, same) (steps_refused c.args.nodes c.len.result c.args.lines.now c.loop-steps.lines
    c.next_in_section.new.self c.loop-steps.steps.items c.in_err-step.field-0.0 c.loop-steps.invariant
    (c.len.ensures ∙ c.loop-steps.steps.ok.0) c.in_err-step.ensures)

pub loop-steps-preserved : goal.loop-steps-preserved
loop-steps-preserved g c =
    step_was_read c.args.nodes c.len.result c.args.lines.now c.loop-steps.lines c.next_in_section.new.self
    c.loop-steps.steps.items c.push.new.self.items c.in_ok-step.field-0 c.in-Step.step c.loop-steps.invariant
    (c.len.ensures ∙ c.loop-steps.steps.ok.0) c.in_ok-step.ensures c.in-Step.is c.in_ok-push-in-Step.ensures.items
