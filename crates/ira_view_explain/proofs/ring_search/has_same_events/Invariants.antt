use Rattle.ira_view_explain.proofs.RingHints.{AreSame}
use Rattle.ira_view_explain.proofs.ring_search.has_same_events.Given as goal

abbrev pub invariant-loop-event : goal.invariant-loop-event
invariant-loop-event g l = AreSame l.log.events l.other.events l.event-iterator l.others
