use Rattle.std.proofs.Common.{◌≡◌, ◌∙◌, ◌+◌, Some, ap, length, rules, subst, sym}
use Rattle.std.specs.Prelude.{slice_get}
use Rattle.ira_order.specs.Ring.{events_of, log_of, next}
use Rattle.ira_view_evidence.specs.Exchange.{IsNthGot}
use Rattle.ira_view_picture.proofs.links.Links.received_at.Goals as goal

pub returns : goal.returns
returns g c =
    let place : c.successor-place.result ≡ next (length c.args.self.now.logs.now) c.args.link = search rules in
    let node = c.requires.traffic.each c.successor-place.result c.traffic_of.result.now c.traffic_of.ensures in
    let here : slice_get c.traffic_of.result.now.receipts c.args.k ≡ Some c.in_ok-receipt.receipt =
    sym c.receipt.ensures ∙ c.in_ok-receipt.was in
    let nth = node.2.got_each c.args.k c.in_ok-receipt.receipt here in
    let got : IsNthGot (log_of c.args.self.now.logs.now c.successor-place.result) (c.args.k + 1)
    c.in_ok-receipt.receipt.position nth.0 =
    subst (λ es. IsNthGot es (c.args.k + 1) c.in_ok-receipt.receipt.position nth.0) (sym (ap events_of node.1)) nth.1 in (
      record {
        at = record { place = c.successor-place.result; position = c.in_ok-receipt.receipt.position };
        load = nth.0;
      },
      (
        place,
        subst (λ i. IsNthGot (log_of c.args.self.now.logs.now i) (c.args.k + 1) c.in_ok-receipt.receipt.position nth.0)
            place got,
      ),
      c.column.ensures,
    )
