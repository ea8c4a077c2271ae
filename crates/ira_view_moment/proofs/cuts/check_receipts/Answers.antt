use Rattle.std.proofs.Common.{◌≡◌, ◌∙◌, ◌+◌, ◌≤◌, ◌<◌, ap, length}
use Rattle.std.specs.Prelude.{slice_index}
use Rattle.ira_order.specs.Ring.{next}
use Rattle.ira_view_evidence.specs.Exchange.{IsNthSending, IsNthReceipt}
use Rattle.ira_view_moment.proofs.Lacking.{first_lacking, link_to, no_earlier, none_before, none_left}
use Rattle.ira_view_moment.proofs.cuts.check_receipts.Goals as goal

pub known_sending-sending-requires-clause-known : goal.known_sending-sending-requires-clause-known
known_sending-sending-requires-clause-known g c =
    let to = link_to c.args.logs.now c.args.cut.now c.get.result c.args.reader c.predecessor-writer.result c.from.result
    c.sendings_among-k.result c.log.result.now (c.get.ensures.value
    ∙ c.size.ensures.value) c.requires.reader c.predecessor-writer.ensures.value c.from.ensures c.log.ensures.value
    c.sendings_among-k.ensures.value in (
      c.in-Some.receipt.load,
      c.requires.matches c.predecessor-writer.result to.below (c.sendings_among-k.result + 1)
          c.in-Some.receipt.load c.in-Some.ensures.1.load_is,
    )

pub returns-in-Some-clause-err : goal.returns-in-Some-clause-err
returns-in-Some-clause-err g c =
    let logs = c.args.logs.now in
    let cut = c.args.cut.now in
    let writer = c.predecessor-writer.result in
    let to = link_to c.args.logs.now c.args.cut.now c.get.result c.args.reader c.predecessor-writer.result c.from.result
    c.sendings_among-k.result c.log.result.now (c.get.ensures.value
    ∙ c.size.ensures.value) c.requires.reader c.predecessor-writer.ensures.value c.from.ensures c.log.ensures.value
    c.sendings_among-k.ensures.value in
    let k : c.sendings_among-k.result + 1 ≡ _ + 1 = ap (λ x. x + 1) to.held in
    let sends : IsNthSending c.args.logs.now c.predecessor-writer.result (c.sendings_among-k.result + 1)
    c.known_sending-sending.result = c.known_sending-sending.ensures in
    let gets : IsNthReceipt c.args.logs.now c.predecessor-writer.result (c.sendings_among-k.result + 1) c.in-Some.receipt
    = c.in-Some.ensures in
    let held : c.in-Some.receipt.at.position
    ≤ slice_index c.args.cut.now (next (length c.args.logs.now) c.predecessor-writer.result) =
    (let low : c.in-Some.receipt.at.position
    ≤ slice_index c.args.cut.now c.args.reader = rw c.from-2.ensures at c.if-receipt-held.true in rw to.link low) in
    let lacking = first_lacking logs cut writer (c.sendings_among-k.result + 1)
    c.known_sending-sending.result.at.position c.in-Some.receipt.at.position c.known_sending-sending.result.load
    c.in-Some.receipt.load to.below k sends.1 gets.1 held in
    record {
      lacking = rw sends.0 lacking;
      reader = rw sends.0 gets.0;
      node = gets.0 ∙ to.link;
      first = rw sends.0 (no_earlier logs cut writer (c.sendings_among-k.result + 1) c.in-Some.receipt.at.position
          c.in-Some.receipt.load k gets.1);
    }

pub returns-in_default-clause-ok : goal.returns-in_default-clause-ok
returns-in_default-clause-ok g c =
    let to = link_to c.args.logs.now c.args.cut.now c.get.result c.args.reader c.predecessor-writer.result c.from.result
    c.sendings_among-k.result c.log.result.now (c.get.ensures.value
    ∙ c.size.ensures.value) c.requires.reader c.predecessor-writer.ensures.value c.from.ensures c.log.ensures.value
    c.sendings_among-k.ensures.value in
    let k : c.sendings_among-k.result + 1 ≡ _ + 1 = ap (λ x. x + 1) to.held in
    let gets : IsNthReceipt c.args.logs.now c.predecessor-writer.result (c.sendings_among-k.result + 1) c.in-Some.receipt
    = c.in-Some.ensures in
    rw (← to.is)
    (none_before c.args.logs.now c.args.cut.now c.predecessor-writer.result (c.sendings_among-k.result + 1)
    c.in-Some.receipt.at.position c.in-Some.receipt.load k gets.1
    (let high : slice_index c.args.cut.now c.args.reader
    < c.in-Some.receipt.at.position = rw c.from-2.ensures at c.if-receipt-held.false in rw to.link high))

pub returns-in_default-2-clause-ok : goal.returns-in_default-2-clause-ok
returns-in_default-2-clause-ok g c =
    let to = link_to c.args.logs.now c.args.cut.now c.get.result c.args.reader c.predecessor-writer.result c.from.result
    c.sendings_among-k.result c.log.result.now (c.get.ensures.value
    ∙ c.size.ensures.value) c.requires.reader c.predecessor-writer.ensures.value c.from.ensures c.log.ensures.value
    c.sendings_among-k.ensures.value in
    let k : c.sendings_among-k.result + 1 ≡ _ + 1 = ap (λ x. x + 1) to.held in
    rw (← to.is) (none_left c.args.logs.now c.args.cut.now c.predecessor-writer.result (c.sendings_among-k.result + 1) k
    c.in_default.ensures)
