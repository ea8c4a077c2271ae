use Rattle.ira_event.proofs.PassedOn.{receipt_read}
use Rattle.ira_event.proofs.records.Records.next_receipt.Goals as goal

pub returns : goal.returns
returns c =
    let found = c.in-Some.ensures.line in
    rw (← c.self.view_is) (receipt_read c.self.inside.version c.self.inside.rest.now c.in-Some.after.now found.0
    c.self.inside.count c.args.sent.now c.if-self-lt-MAX_RECORDS.true c.in-Some.ensures.in_range found.1 found.2)
