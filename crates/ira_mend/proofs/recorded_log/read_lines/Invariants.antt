use Rattle.std.proofs.Common.{◌≡◌, length}
use Rattle.ira_event.specs.Records.{HasRead}
use Rattle.ira_mend.proofs.recorded_log.read_lines.Given as goal

abbrev pub invariant-loop-events : goal.invariant-loop-events
invariant-loop-events g l = record {
  read : HasRead l.fn.records.rest l.events l.records;
  version : l.records.version ≡ l.fn.records.version;
}

abbrev pub decreases-loop-events : goal.decreases-loop-events
decreases-loop-events g l = length l.records.rest
