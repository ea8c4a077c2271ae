use Rattle.std.proofs.Common.{◌≡◌, ◌∙◌, ◌+◌, ℕ, Option, Some, ap, rules, subst}
use Rattle.std.specs.Prelude.{IfSome}
use Rattle.ira_event.specs.declared.event.Event.{Event}
use Rattle.ira_event.specs.declared.event.Event.TheVariants.{Got}
use Rattle.ira_order.specs.Ring.{numbered}
use Rattle.ira_view_explain.specs.StopHint.{CallsFor}
use Rattle.ira_view_explain.proofs.StopHints.{called}
use Rattle.ira_view_explain.proofs.stopped.Stopped.is_called_later.Goals as goal

pub returns-in-Some-Got : goal.returns-in-Some-Got
returns-in-Some-Got g c h =
    let first : numbered c.args.log.now.events (c.args.self.now.position + 1) ≡ Some c.in-Some-Got.field-0 =
    subst (λ (o : Option Event). IfSome o
    (λ event. numbered c.args.log.now.events (c.args.self.now.position + 1) ≡ Some event)) c.in-Some-Got.is
    c.next.ensures in
    let receipt : c.in-Some-Got.field-0 ≡ Got c.in-Some-Got.call = search rules in
    let at = first ∙ ap Some receipt in
    let debt : c.owed_after.result ≡ Some c.args.load = search rules in
    let nodes_are : c.nodes.result ≡ c.args.log.now.nodes = search rules in
    let calls = subst (λ (n : ℕ). IfSome c.owed_after.result
    (CallsFor n c.args.self.now.state (Got c.in-Some-Got.call))) nodes_are c.owed_after.ensures.call in
    called c.args.log.now c.args.self.now c.in-Some-Got.call c.args.load c.owed_after.result at calls debt
