use Rattle.std.proofs.Common.{◌≡◌, ℕ, ◌<◌, List, Option, get_or, length}
use Rattle.ira_event.specs.Log.{Log}
use Rattle.ira_elim.specs.Elimination.{AreCounted, ArePlaces, AreStands, AreWithin, HasFirstLefts, IsGreatestCount}
use Rattle.ira_elim.proofs.elimination.least_cut.Given as goal

abbrev pub invariant-loop-place : goal.invariant-loop-place
invariant-loop-place g l =
    (logs : List Log) (queues : List (Option (List ℕ))) → l.nodes ≡ length logs → ArePlaces queues l.asked
    → HasFirstLefts queues → AreWithin logs queues → AreStands logs queues l.stands
    → AreCounted queues l.stands
    → (length l.cut.items ≡ l.place) × ((i : ℕ) → i < l.place → IsGreatestCount logs queues i (get_or l.cut.items i 0))
