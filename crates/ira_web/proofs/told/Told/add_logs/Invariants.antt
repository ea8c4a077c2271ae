use Rattle.std.proofs.Common.{◌≤◌, length, map, take}
use Rattle.ira_event.specs.LogText.{log_text}
use Rattle.ira_web.specs.Told.{Adds}
use Rattle.ira_web.proofs.told.Told.add_logs.Given as goal

abbrev pub invariant-loop-place : goal.invariant-loop-place
invariant-loop-place g l = record {
  within : l.place ≤ length l.logs;
  added : Adds (map log_text (take l.place l.logs)) l.fn.self l.self;
}
