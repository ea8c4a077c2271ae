use Rattle.std.proofs.Common.{◌≡◌, take, true}
use Rattle.std.specs.List.{list_all}
use Rattle.ira_mend.specs.RecordedLogs.{is_short}
use Rattle.ira_mend.proofs.recorded_logs.RecordedLogs.first_fault.Given as goal

abbrev pub invariant-loop-number : goal.invariant-loop-number
invariant-loop-number g l = list_all is_short (take l.number l.self) ≡ true
