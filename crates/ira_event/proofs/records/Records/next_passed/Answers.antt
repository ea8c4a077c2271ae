use Rattle.ira_event.specs.SentLine.{passed_on}
use Rattle.ira_event.proofs.PassedOn.{passed_in_range, sending_read}
use Rattle.ira_event.proofs.records.Records.next_passed.Goals as goal

pub returns-clause-read : goal.returns-clause-read
returns-clause-read c =
    let found = c.in-Some.ensures.line in
    let m = c.args.sent.now in
    rw (← c.self.view_is) (sending_read c.self.inside.version c.self.inside.rest.now c.in-Some.after.now found.0
    c.self.inside.count (passed_on m) c.if-self-lt-MAX_RECORDS.true
    (passed_in_range m c.requires c.in-Some.ensures.in_range) found.1 found.2)
