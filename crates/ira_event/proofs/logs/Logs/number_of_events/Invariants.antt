use Rattle.std.proofs.Common.{◌≡◌, ◌≤◌, ◌*◌, take, length}
use Rattle.std.specs.Prelude.{sum_by}
use Rattle.ira_event.specs.Limits.{MAX_RECORDS}
use Rattle.ira_event.proofs.logs.Logs.number_of_events.Given as goal

abbrev pub invariant-loop-log : goal.invariant-loop-log
invariant-loop-log g l = record {
  sum : l.events ≡ sum_by (λ log. length log.events) (take l.log-index l.log-items);
  few : l.events ≤ l.log-index * MAX_RECORDS;
}
