use Rattle.std.proofs.Common.{◌≡◌, ◌∙◌, ℕ, Ok, Some, length, ap, arith, subst, sym}
use Rattle.std.specs.Prelude.{slice_get}
use Rattle.ira_event.specs.declared.event.Event.TheVariants.{Got}
use Rattle.ira_node.specs.NodeStep.{HasStep}
use Rattle.ira_order.specs.Ring.{prev}
use Rattle.ira_view_election.proofs.ByKind.{draw_due, receipt_due, sending_due, stepped}
use Rattle.ira_view_election.proofs.at_moment.due_at.Goals as goal

pub returns-in-Draw : goal.returns-in-Draw
returns-in-Draw g c =
    draw_due c.args.moment.now c.args.i c.node.result c.node.ensures 255
    (c.in-Draw.ensures.can 255 (omega arith, omega arith) 1 (omega arith) (omega arith)) c.in-Draw.ensures.only

pub returns-in-Send : goal.returns-in-Send
returns-in-Send g c =
    sending_due c.args.moment.now c.args.i c.node.result c.node.ensures 255 c.in-Send.load
    (c.in-Send.ensures.can 255 (omega arith, omega arith)) c.in-Send.ensures.only

pub returns-in_ok-ok-in-Receipt : goal.returns-in_ok-ok-in-Receipt
returns-in_ok-ok-in-Receipt g c =
    let place : c.predecessor.result ≡ prev (length c.args.moment.now.nodes) c.args.i =
    c.predecessor.ensures.value ∙ ap (λ n. prev n c.args.i) c.size-size.ensures.value in
    let link : slice_get c.args.moment.now.links (prev (length c.args.moment.now.nodes) c.args.i)
    ≡ Some c.on_link.result.now = rw (sym place) c.on_link.ensures in
    let is : c.step.result ≡ Ok c.in_ok-ok-in-Receipt.field-0 =
    stepped c.step.result c.in_ok-ok-in-Receipt.field-0 c.in_ok-ok-in-Receipt.ensures.value in
    let step : HasStep c.args.nodes c.node.result.state (Got c.in_ok-load-in-Receipt.field-0.now) =
    (c.in_ok-ok-in-Receipt.field-0, (c.step.ensures.ok c.in_ok-ok-in-Receipt.field-0).0 is) in
    receipt_due c.args.moment.now c.args.i c.node.result c.node.ensures c.in_ok-load-in-Receipt.field-0.now
    c.on_link.result.now link c.in_ok-load-in-Receipt.ensures.value
    (subst (λ (n : ℕ). HasStep n c.node.result.state (Got c.in_ok-load-in-Receipt.field-0.now)) c.requires.nodes step)
    c.in-Receipt.ensures.only
