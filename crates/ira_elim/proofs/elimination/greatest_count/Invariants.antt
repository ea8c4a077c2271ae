use Rattle.std.proofs.Common.{ℕ, ◌<◌, List, Option, length}
use Rattle.ira_event.specs.Log.{Log}
use Rattle.ira_elim.specs.Elimination.{AreCounted, ArePlaces, AreStands, AreWithin, HasFirstLefts}
use Rattle.ira_elim.proofs.Greatest.{IsUpper, IsReached}
use Rattle.ira_elim.proofs.elimination.greatest_count.Given as goal

abbrev pub invariant-loop-other : goal.invariant-loop-other
invariant-loop-other g l =
    (logs : List Log) (queues : List (Option (List ℕ))) → l.place < length logs → ArePlaces queues l.asked
    → HasFirstLefts queues → AreWithin logs queues → AreStands logs queues l.stands
    → AreCounted queues l.stands
    → IsUpper logs queues l.asked l.place l.other-index l.greatest × IsReached logs queues l.asked l.place l.greatest
