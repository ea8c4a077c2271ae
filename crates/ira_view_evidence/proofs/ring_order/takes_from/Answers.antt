use Rattle.std.proofs.Common.{◌≡◌, ◌≢◌, rules}
use Rattle.ira_view_evidence.proofs.RingOrders.{none_to_take, other_to_take, taken_all, taken_at_first, taken_more}
use Rattle.ira_view_evidence.proofs.ring_order.takes_from.Goals as goal

pub loop-receipt-init : goal.loop-receipt-init
loop-receipt-init g c =
    rw (c.events-sendings.ensures.list, c.events-receipts.ensures.list) (taken_at_first c.args.writer.now.events
    c.args.reader.now.events)

pub returns-in_default-next_sending : goal.returns-in_default-next_sending
returns-in_default-next_sending g c = (
  λ no. absurd (search rules),
  λ h. absurd (none_to_take _ _ c.loop-receipt.sendings c.loop-receipt.receipts
      c.next_receipt.new.self c.in-Some.receipt c.loop-receipt.invariant c.in-Some.ensures.load
      c.in_default-next_sending.ensures.load h),
)

pub returns-then-not-is : goal.returns-then-not-is
returns-then-not-is g c =
    let differ : c.in-Some-next_sending.sending ≢ c.in-Some.receipt = λ e. let same = c.is.ensures.1 e in
    let not = c.if-not-is.true in cc in (
      λ no. absurd (search rules),
      λ h. absurd (other_to_take _ _ c.loop-receipt.sendings c.loop-receipt.receipts
          c.next_sending.new.self c.next_receipt.new.self c.in-Some-next_sending.sending c.in-Some.receipt
          c.loop-receipt.invariant c.in-Some.ensures.load c.in-Some-next_sending.ensures.load differ h),
    )

pub loop-receipt-preserved : goal.loop-receipt-preserved
loop-receipt-preserved g c =
    let same : c.in-Some-next_sending.sending ≡ c.in-Some.receipt = c.is.ensures.0 (search rules) in
    taken_more _ _ c.loop-receipt.sendings c.loop-receipt.receipts c.next_sending.new.self c.next_receipt.new.self
    c.in-Some.receipt c.loop-receipt.invariant (rw same at c.in-Some-next_sending.ensures.load)
    c.in-Some.ensures.load

pub returns : goal.returns
returns g c = (
  λ yes. taken_all _ _ c.loop-receipt.sendings c.loop-receipt.receipts c.loop-receipt.invariant
      c.in_default.ensures.load,
  λ h. search rules,
)
