use Rattle.ira_view_evidence.proofs.OriginLists.{OriginsSoFar}
use Rattle.ira_view_evidence.proofs.origin.origins.Given as goal

abbrev pub invariant-loop-event : goal.invariant-loop-event
invariant-loop-event g l =
    OriginsSoFar (g.H.HappenedBefore.logs_of l.ordered) l.named.at l.faulty l.event-index l.origins.items
