use Rattle.std.proofs.Common.{sym, ◌∙◌, subst, arith}
use Rattle.ira_event.proofs.LogReading.{FirstFeed, line_end_at}
use Rattle.ira_cert_text.proofs.Reading.{fault_inside_cut, fault_unread_too_many, fault_inside_line}
use Rattle.ira_cert_text.proofs.cert_lines.inside_fault.Goals as goal
use Rattle.ira_cert_text.proofs.cert_lines.inside_fault.Goals.{
  else-steps-eq-MAX_STEPS-via-then-steps-eq-MAX_STEPS+else-begins_as_step,
}
use Rattle.ira_cert_text.proofs.cert_lines.inside_fault.Goals.{else-steps-eq-MAX_STEPS-via-else-steps-eq-MAX_STEPS}

pub returns-in_default : goal.returns-in_default
returns-in_default c = λ nodes.
    fault_inside_cut nodes c.args.number c.args.steps c.args.text.now (sym c.line_end.ensures ∙ c.in_default.is)

pub returns-then-begins_as_step : goal.returns-then-begins_as_step
returns-then-begins_as_step c =
    let feed = line_end_at c.args.text.now c.in-Some.end (sym c.line_end.ensures ∙ c.in-Some.is) in
    let line : FirstFeed c.args.text.now c.split_at.result.0.now =
    subst (FirstFeed c.args.text.now) (sym c.split_at.ensures.front) feed in
    λ nodes. fault_unread_too_many nodes c.args.number c.args.steps c.args.text.now c.split_at.result.0.now line
    (c.begins_as_step.ensures.0 c.if-begins_as_step.true) c.if-steps-eq-MAX_STEPS.true

pub returns : goal.returns
returns c =
    let feed = line_end_at c.args.text.now c.in-Some.end (sym c.line_end.ensures ∙ c.in-Some.is) in
    let line : FirstFeed c.args.text.now c.split_at.result.0.now =
    subst (FirstFeed c.args.text.now) (sym c.split_at.ensures.front) feed in
    λ nodes. fault_inside_line nodes c.args.number c.args.steps c.args.text.now c.split_at.result.0.now line c.requires
    (λ many begins. elim c.else-steps-eq-MAX_STEPS.branch [
      | else-steps-eq-MAX_STEPS-via-then-steps-eq-MAX_STEPS+else-begins_as_step w ↦ let no =
          w.begins_as_step.ensures.1 begins in let is = w.if-begins_as_step.false in cc
      | else-steps-eq-MAX_STEPS-via-else-steps-eq-MAX_STEPS w ↦
          absurd (omega (arith, many, w.if-steps-eq-MAX_STEPS.false))
    ])
