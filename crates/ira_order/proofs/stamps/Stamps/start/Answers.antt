use Rattle.std.proofs.Common.{◌≡◌, length, sym, ap, subst, ◌∙◌, arith}
use Rattle.ira_order.specs.Ring.{log_of, events_of}
use Rattle.ira_order.specs.Stamps.{AreReceipts}
use Rattle.ira_order.proofs.Filling.{one_node_more}
use Rattle.ira_order.proofs.stamps.Stamps.start.Goals as goal

pub loop-place-preserved : goal.loop-place-preserved
loop-place-preserved g c =
    let events_are : c.log.result.now.events ≡ log_of c.args.logs.now c.loop-place.place =
    sym (ap events_of c.log.ensures.value) in
    rw c.in_ok-push.ensures.items
    (one_node_more c.args.logs.now c.loop-place.place _ c.in_ok-start.field-0 c.loop-place.invariant
    (subst (λ events. AreReceipts events c.in_ok-start.field-0.numbers) events_are c.in_ok-start.ensures.receipts)
    c.in_ok-start.ensures.counters)

pub returns : goal.returns
returns g c =
    let all : c.loop-place.place ≡ length c.args.logs.now =
    omega (
      arith,
      c.loop-place-test.false,
      c.loop-place.auto.place-end,
      c.get-size.ensures.value,
      c.size.ensures.value,
    ) in
    record {
      table = record {
        places = c.loop-place.invariant.many ∙ all;
        receipts = λ j l. c.loop-place.invariant.receipts j (omega (arith, all, l));
      };
      none = λ j l. c.loop-place.invariant.none j (omega (arith, all, l));
    }
