use Rattle.std.proofs.Common.{◌∙◌, ap}
use Rattle.ira_order.specs.Ring.{next}
use Rattle.ira_view_evidence.proofs.Counted.{found_receipt}
use Rattle.ira_view_evidence.proofs.exchange.nth_receipt.Goals as goal

pub returns : goal.returns
returns g c =
    let to = c.successor-place.ensures.value
    ∙ ap (λ n. next n c.args.link) (c.get.ensures.value ∙ c.size.ensures.value) in
    found_receipt c.args.logs.now c.args.link _ c.args.k _ c.nth.result to c.log.ensures.value c.nth.ensures
