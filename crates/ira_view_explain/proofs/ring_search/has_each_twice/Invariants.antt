use Rattle.std.proofs.Common.{length}
use Rattle.ira_view_explain.specs.RingHint.{AreTwice}
use Rattle.ira_view_explain.proofs.ring_search.has_each_twice.Given as goal

abbrev pub invariant-loop-event : goal.invariant-loop-event
invariant-loop-event g l = AreTwice l.events → AreTwice l.log.events

abbrev pub decreases-loop-event : goal.decreases-loop-event
decreases-loop-event g l = length l.events
