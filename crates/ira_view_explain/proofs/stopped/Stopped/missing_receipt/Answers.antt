use Rattle.std.proofs.Common.{◌≡◌, ℕ, Option, Some, length, rules, subst}
use Rattle.std.specs.Prelude.{IfSome, slice_get}
use Rattle.ira_event.specs.declared.event.Event.TheVariants.{Got, Sent}
use Rattle.ira_event.specs.declared.load.Load.{Load}
use Rattle.ira_order.specs.Matching.{got, sent}
use Rattle.ira_view_explain.specs.StopHint.{CallsFor}
use Rattle.ira_view_explain.proofs.stopped.Stopped.missing_receipt.Goals as goal

pub returns-in-NotOwed-Sent-None : goal.returns-in-NotOwed-Sent-None
returns-in-NotOwed-Sent-None g c =
    let stopped = c.args.self.now in
    let log = c.args.log.now in
    let load = c.in-NotOwed-Sent-None.sent in
    let call = c.in_ok-call.call in
    let event : stopped.event ≡ Sent load = search rules in
    let next : slice_get (sent c.args.before.now.events) (length (got log.events)) ≡ Some call = search rules in
    let debt : c.owed_after.result ≡ Some load = search rules in
    let nodes : c.nodes.result ≡ log.nodes = search rules in
    let calls = subst (λ (n : ℕ). IfSome c.owed_after.result (CallsFor n stopped.state (Got call))) nodes
    c.owed_after.ensures.call in
    (load, event, next, subst (λ (o : Option Load). IfSome o (CallsFor log.nodes stopped.state (Got call))) debt calls)
