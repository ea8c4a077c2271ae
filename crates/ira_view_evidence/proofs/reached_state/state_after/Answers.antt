use Rattle.std.proofs.Common.{◌≡◌, ◌∙◌, ◌∷◌, [], None, Some, ap, rules, sym}
use Rattle.ira_view_evidence.proofs.StatesAfter.{at_first, at_later, found_is_reached, state_at}
use Rattle.ira_view_evidence.proofs.reached_state.state_after.Goals as goal

pub returns-then-position-events : goal.returns-then-position-events
returns-then-position-events g c =
    let front : c.loop-position.position-iterator ≡ (c.in-Some.position, c.in-Some.state) ∷ c.next.new.self =
    search rules in
    let here = at_first c.args.events c.in-Some.position c.in-Some.state c.next.new.self c.if-position-events.true in
    found_is_reached c.args.log.now c.args.events (Some c.in-Some.state)
    (sym (ap (state_at c.args.events) front ∙ here) ∙ c.loop-position.invariant)

pub loop-position-preserved : goal.loop-position-preserved
loop-position-preserved g c =
    let front : c.loop-position.position-iterator ≡ (c.in-Some.position, c.in-Some.state) ∷ c.next.new.self =
    search rules in
    sym (ap (state_at c.args.events) front
    ∙ at_later c.args.events c.in-Some.position c.in-Some.state c.next.new.self c.if-position-events.false)
    ∙ c.loop-position.invariant

pub returns : goal.returns
returns g c =
    let none : c.loop-position.position-iterator ≡ [] = search rules in
    found_is_reached c.args.log.now c.args.events None
    (sym (ap (state_at c.args.events) none) ∙ c.loop-position.invariant)
