use Rattle.std.proofs.Common.{◌≡◌, List, length}
use Rattle.ira_event.specs.declared.event.Event.{Event}
use Rattle.ira_event.specs.Records.{HasRead}
use Rattle.ira_view_explain.proofs.text_finding.count_records.Given as goal

abbrev pub invariant-loop : goal.invariant-loop
invariant-loop l = record {
  events : List Event;
  read : HasRead l.initial.records.rest events l.records;
  version : l.records.version ≡ l.initial.records.version;
}

abbrev pub decreases-loop : goal.decreases-loop
decreases-loop l = length l.records.rest
