use Rattle.std.proofs.Common.{◌≡◌, sym, ap, subst}
use Rattle.ira_order.specs.Ring.{log_of, events_of}
use Rattle.ira_order.specs.DirectDependencies.{AreDependencies}
use Rattle.ira_order.proofs.Dependencies.{one_node_more}
use Rattle.ira_order.proofs.direct_dependencies.DirectDependencies.new.Goals as goal

pub loop-place-preserved : goal.loop-place-preserved
loop-place-preserved g c =
    let node = c.in_ok-of_log.field-0 in
    let events_are : c.log.result.now.events ≡ log_of c.args.logs.now c.loop-place.place =
    sym (ap events_of c.log.ensures.value) in
    rw c.in_ok-push.ensures.items
    (one_node_more c.args.logs.now c.loop-place.place _ node c.loop-place.invariant
    (subst (λ events. AreDependencies events node) events_are c.in_ok-of_log.ensures))
