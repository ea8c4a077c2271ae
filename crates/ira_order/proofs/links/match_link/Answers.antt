use Rattle.std.proofs.Common.{◌≡◌, ◌≢◌, arith, rules}
use Rattle.ira_order.proofs.Pairing.{paired_at_first, paired_more, paired_all, missing_at, other_at}
use Rattle.ira_order.proofs.Receipts.{receipts_le}
use Rattle.ira_order.proofs.links.match_link.Goals as goal

pub loop-receipt-init : goal.loop-receipt-init
loop-receipt-init g c = rw (c.events-sendings.ensures.list, c.events-receipts.ensures.list) (record {
  room = omega (arith, receipts_le c.args.reader.now.events, c.events-receipts.ensures.valid.count);
  paired = paired_at_first c.args.writer.now.events c.args.reader.now.events;
})

pub returns-in_default-next_sending : goal.returns-in_default-next_sending
returns-in_default-next_sending g c =
    missing_at _ _ _ c.loop-receipt.sendings c.loop-receipt.receipts c.next_receipt.new.self c.in-Some.receipt
    c.loop-receipt.k c.loop-receipt.invariant.paired c.in-Some.ensures.load c.in_default-next_sending.ensures.load

pub returns-then-not-is : goal.returns-then-not-is
returns-then-not-is g c =
    let differ : c.in-Some-next_sending.sending ≢ c.in-Some.receipt = λ e. let same = c.is.ensures.1 e in
    let not = c.if-not-is.true in cc in
    other_at _ _ _ c.loop-receipt.sendings c.next_sending.new.self c.loop-receipt.receipts c.next_receipt.new.self
    c.in-Some.receipt c.in-Some-next_sending.sending c.loop-receipt.k c.loop-receipt.invariant.paired
    c.in-Some.ensures.load c.in-Some-next_sending.ensures.load differ

pub loop-receipt-preserved : goal.loop-receipt-preserved
loop-receipt-preserved g c =
    let same : c.in-Some-next_sending.sending ≡ c.in-Some.receipt = c.is.ensures.0 (search rules) in
    record {
      room = search rules;
      paired = paired_more _ _ c.loop-receipt.sendings c.next_sending.new.self c.loop-receipt.receipts
          c.next_receipt.new.self c.in-Some.receipt c.in-Some-next_sending.sending c.loop-receipt.k
          c.loop-receipt.invariant.paired c.in-Some.ensures.load c.in-Some-next_sending.ensures.load same;
    }

pub returns : goal.returns
returns g c = paired_all _ _ c.loop-receipt.sendings c.loop-receipt.receipts c.loop-receipt.k
    c.loop-receipt.invariant.paired c.in_default.ensures.load
