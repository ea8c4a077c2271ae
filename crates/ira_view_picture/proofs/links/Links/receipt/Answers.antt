use Rattle.std.proofs.Common.{◌≡◌, ◌∙◌, Some, length, rules, sym}
use Rattle.std.specs.Prelude.{slice_get}
use Rattle.ira_order.specs.Ring.{next}
use Rattle.ira_view_picture.proofs.EventNumbers.{got_read}
use Rattle.ira_view_picture.proofs.links.Links.receipt.Goals as goal

pub returns-clause-receipt : goal.returns-clause-receipt
returns-clause-receipt g c =
    let place : c.successor-place.result ≡ next (length c.args.self.now.logs.now) c.args.link = search rules in
    let node = c.requires.traffic.each c.successor-place.result c.traffic_of.result.now c.traffic_of.ensures in
    let here : slice_get c.traffic_of.result.now.receipts c.args.k ≡ Some c.in_ok-receipt.receipt =
    sym c.receipt.ensures ∙ c.in_ok-receipt.was in
    let nth = node.2.got_each c.args.k c.in_ok-receipt.receipt here in
    let got = got_read c.args.self.now.logs.now c.successor-place.result node.0 _ c.in_ok-receipt.receipt.position nth.0
    c.in_ok-load.load node.1 nth.1 (sym c.in_ok-load.was ∙ c.load_at.ensures) in
    (place, rw place at got)

pub returns-clause-effect : goal.returns-clause-effect
returns-clause-effect g c =
    let node = c.requires.traffic.each c.successor-place.result c.traffic_of.result.now c.traffic_of.ensures in
    record {
      log = node.0;
      log_is = node.1;
      effect_is = node.2.effects c.args.k c.in_ok-receipt.receipt (sym c.receipt.ensures ∙ c.in_ok-receipt.was);
    }
