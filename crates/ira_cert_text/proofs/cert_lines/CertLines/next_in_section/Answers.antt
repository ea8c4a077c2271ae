use Rattle.std.proofs.Common.{Some, refl, ap, ◌∙◌, arith}
use Rattle.ira_cert_text.proofs.Reading.{fault_too_many_steps, fault_step_range, fault_spent_range, line_at_shorter}
use Rattle.ira_cert_text.proofs.Reading.{goes_on_step, goes_on_spent}
use Rattle.ira_cert_text.proofs.cert_lines.CertLines.next_in_section.Goals as goal

pub returns-in_default : goal.returns-in_default
returns-in_default c = rw (← c.self.view_is) (c.inside_fault.ensures c.args.nodes)

pub returns-then-steps-eq-MAX_STEPS : goal.returns-then-steps-eq-MAX_STEPS
returns-then-steps-eq-MAX_STEPS c =
    let read = c.in-Some.ensures ∙ ap (λ x. Some (x, c.in-Some.after.now)) c.in-Step.is in
    rw (← c.self.view_is) (fault_too_many_steps c.args.nodes c.self.inside.number c.args.steps c.self.inside.rest.now
    c.in-Step.spelled c.in-Some.after.now read c.if-steps-eq-MAX_STEPS.true)

pub returns-in_default-in_range : goal.returns-in_default-in_range
returns-in_default-in_range c =
    let read = c.in-Some.ensures ∙ ap (λ x. Some (x, c.in-Some.after.now)) c.in-Step.is in
    rw (← c.self.view_is) (fault_step_range c.args.nodes c.self.inside.number c.args.steps c.self.inside.rest.now
    c.in-Step.spelled c.in-Some.after.now read (omega (arith, c.ranges.nodes.fits)) c.if-steps-eq-MAX_STEPS.false
    (λ good. let some = c.in_default-in_range.ensures.some.1 good in cc))

pub go_on-requires : goal.go_on-requires
go_on-requires c = rw (← c.self.view_is)
    (line_at_shorter c.args.nodes c.self.inside.number c.args.steps c.self.inside.rest.now c.in-Some.line
    c.in-Some.after.now c.in-Some.ensures)

pub returns-in_default-place_in_range : goal.returns-in_default-place_in_range
returns-in_default-place_in_range c =
    let read = c.in-Some.ensures ∙ ap (λ x. Some (x, c.in-Some.after.now)) c.in-Spent.is in
    rw (← c.self.view_is) (fault_spent_range c.args.nodes c.self.inside.number c.args.steps c.self.inside.rest.now
    c.in-Spent.place c.in-Some.after.now read
    (λ good. let some = c.in_default-place_in_range.ensures.some.1 good in cc))

pub go_on-requires-in-Spent : goal.go_on-requires-in-Spent
go_on-requires-in-Spent c =
    rw (← c.self.view_is) (line_at_shorter c.args.nodes c.self.inside.number c.args.steps c.self.inside.rest.now
    c.in-Some.line c.in-Some.after.now c.in-Some.ensures)

pub returns-in-Some-in_range : goal.returns-in-Some-in_range
returns-in-Some-in_range c =
    let read = c.in-Some.ensures ∙ ap (λ x. Some (x, c.in-Some.after.now)) c.in-Step.is in
    let on = rw (← c.self.view_is) at c.go_on.ensures in
    rw (← c.self.view_is) (goes_on_step c.args.nodes c.self.inside.number c.args.steps c.self.inside.rest.now
    c.in-Step.spelled c.in-Some-in_range.step c.in-Some.after.now c.go_on.new.self read
    (omega (arith, c.ranges.nodes.fits)) c.if-steps-eq-MAX_STEPS.false
    c.in-Some-in_range.ensures.value (c.in-Some-in_range.ensures.some.0 refl) on)

pub returns-in-Some-place_in_range : goal.returns-in-Some-place_in_range
returns-in-Some-place_in_range c =
    let read = c.in-Some.ensures ∙ ap (λ x. Some (x, c.in-Some.after.now)) c.in-Spent.is in
    let on = rw (← c.self.view_is) at c.go_on-in-Spent.ensures in
    rw (← c.self.view_is) (goes_on_spent c.args.nodes c.self.inside.number c.args.steps c.self.inside.rest.now
    c.in-Spent.place c.in-Some-place_in_range.spent c.in-Some.after.now c.go_on-in-Spent.new.self read
    (omega (arith, c.ranges.nodes.fits))
    c.in-Some-place_in_range.ensures.value (c.in-Some-place_in_range.ensures.some.0 refl) on)
