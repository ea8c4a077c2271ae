use Rattle.std.proofs.Common.{Ok, rules}
use Rattle.ira_order.specs.Circle.{HasCircle}
use Rattle.ira_order.specs.MatchFault.{IsMatchFault}
use Rattle.ira_order.proofs.Orders.{handed_match, handed_circle, no_match_fault, memory_answer}
use Rattle.ira_order.proofs.search.order.Goals as goal

pub returns-in_err-schedule-clause-matching : goal.returns-in_err-schedule-clause-matching
returns-in_err-schedule-clause-matching g c =
    handed_match c.from_residual.result c.in_err-schedule.field-0.0 (search rules) (IsMatchFault c.args.logs.now)
    c.in_err-schedule.ensures.matching

pub returns-in_err-schedule-clause-circle : goal.returns-in_err-schedule-clause-circle
returns-in_err-schedule-clause-circle g c =
    handed_circle c.from_residual.result c.in_err-schedule.field-0.0 (search rules) (HasCircle c.args.logs.now)
    c.in_err-schedule.ensures.circle

pub returns-in_err-alloc-clause-matching : goal.returns-in_err-alloc-clause-matching
returns-in_err-alloc-clause-matching g c =
    memory_answer c.args.logs.now c.from_residual-in_err-alloc.result c.in_ok-schedule.ensures.ok.matches (search rules)

pub returns-in_err-stamps-clause-matching : goal.returns-in_err-stamps-clause-matching
returns-in_err-stamps-clause-matching g c =
    memory_answer c.args.logs.now c.from_residual-in_err-stamps.result c.in_ok-schedule.ensures.ok.matches
    (search rules)

pub returns-clause-matching : goal.returns-clause-matching
returns-clause-matching g c =
    no_match_fault c.args.logs.now (Ok c.of_parts.result) c.in_ok-schedule.ensures.ok.matches (λ f e. (let z : ⊥ = cc in
    z))
