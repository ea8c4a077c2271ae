use Rattle.std.proofs.Common.{◌+◌, ◌++◌, drop, refl, ap, ◌∙◌, arith}
use Rattle.std.specs.List.{flat_map}
use Rattle.std.proofs.lemmas.Result.{err_from_is_err_and}
use Rattle.ira_event.proofs.Writing.{HasWritten-more, HasWritten-stops}
use Rattle.ira_cert_text.specs.CertText.{step_text}
use Rattle.ira_event.proofs.Rest.{next_text}
use Rattle.ira_cert_text.proofs.cert_writer.write_steps.Goals as goal

pub loop-step-preserved : goal.loop-step-preserved
loop-step-preserved g c =
    let xs = c.args.steps.now in
    let i = c.loop-step.step-index in
    let rest = flat_map step_text (drop (i + 1) xs) in
    let next = ap (λ line. line ++ rest) c.step_line.ensures ∙ next_text step_text xs i _ _ (omega arith) refl in
    HasWritten-more (flat_map step_text xs) (flat_map step_text (drop i xs)) c.step_line.result rest _ _ _
    c.loop-step.invariant next c.in_ok-write.ensures

pub returns-in_err-write : goal.returns-in_err-write
returns-in_err-write g c =
    let stop = err_from_is_err_and c.from_residual.result c.from_residual.ensures.1 in
    let xs = c.args.steps.now in
    let i = c.loop-step.step-index in
    let rest = flat_map step_text (drop (i + 1) xs) in
    let next = ap (λ line. line ++ rest) c.step_line.ensures ∙ next_text step_text xs i _ _ (omega arith) refl in
    HasWritten-stops _ _ stop.1 (flat_map step_text xs) (flat_map step_text (drop i xs)) c.step_line.result rest _ _ _
    c.loop-step.invariant next c.in_err-write.ensures
