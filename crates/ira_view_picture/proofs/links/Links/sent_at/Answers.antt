use Rattle.std.proofs.Common.{◌≡◌, ◌∙◌, ◌+◌, Some, ap, refl, subst, sym}
use Rattle.std.specs.Prelude.{slice_get}
use Rattle.ira_order.specs.Ring.{events_of}
use Rattle.ira_view_evidence.specs.Exchange.{IsNthSent}
use Rattle.ira_view_picture.proofs.links.Links.sent_at.Goals as goal

pub returns : goal.returns
returns g c =
    let node = c.requires.traffic.each c.args.link c.traffic_of.result.now c.traffic_of.ensures in
    let here : slice_get c.traffic_of.result.now.sendings c.args.k ≡ Some c.in_ok-position.position =
    sym c.sending.ensures ∙ c.in_ok-position.was in
    let nth = node.2.sent_each c.args.k c.in_ok-position.position here in (
      record { at = record { place = c.args.link; position = c.in_ok-position.position }; load = nth.0 },
      (refl, subst (λ es. IsNthSent es (c.args.k + 1) c.in_ok-position.position nth.0) (sym (ap events_of node.1)) nth.1),
      c.column.ensures,
    )
