use Rattle.std.proofs.Common.{◌≡◌, ◌<◌, ◌≤◌, drop, length, take}
use Rattle.std.specs.List.{filter_map}
use Rattle.ira_view_evidence.specs.LinkSide.{load_on}
use Rattle.ira_view_evidence.proofs.exchange.nth.Given as goal

abbrev pub invariant-loop-event : goal.invariant-loop-event
invariant-loop-event g l = record {
  ahead : l.event-iterator ≡ drop l.position l.log.events;
  within : l.position ≤ length l.log.events;
  rank : l.rank ≡ length (filter_map (load_on l.side) (take l.position l.log.events));
  fewer : 0 < l.k → l.rank < l.k;
}
