use Rattle.std.proofs.Common.{◌≡◌, ◌++◌, true}
use Rattle.std.specs.List.{list_all}
use Rattle.ira_event.specs.Event.{is_event}
use Rattle.ira_event.proofs.log_upgrade.upgrade.Given as goal

abbrev pub invariant-loop-event : goal.invariant-loop-event
invariant-loop-event g l = record {
  all : l.events ++ l.event-iterator ≡ l.log.events;
  numbers : list_all is_event l.event-iterator ≡ true;
}
