use Rattle.std.proofs.Common.{◌≢◌, arith}
use Rattle.ira_event.specs.Limits.{MAX_RECORDS}
use Rattle.ira_event.proofs.LogReading.{reads_record}
use Rattle.ira_event.proofs.records.Records.next_event.Goals as goal

pub returns : goal.returns
returns c =
    let few : c.self.inside.count ≢ MAX_RECORDS = omega arith in
    rw (← c.self.view_is) (reads_record c.self.inside.version c.self.inside.rest.now c.in-Some.after.now
    c.self.inside.count c.in-Some.event c.in-Some.ensures.line (c.in-Some.ensures.version c.self.inside.version) few
    c.in-Some.ensures.in_range)
