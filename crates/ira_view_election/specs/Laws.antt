-- At a moment of a run something comes next, or a node leads.
use Rattle.std.specs.Prelude.{◌≡◌, ℕ, true, List, [], Some, slice_get}
use Rattle.ira_event.specs.declared.event.Event.{Event}
use Rattle.ira_event.specs.Log.{Log}
use Rattle.ira_event.specs.Logs.{AreLogs}
use Rattle.ira_order.specs.Cut.{IsConsistentCut}
use Rattle.ira_order.specs.Matching.{Matches}
use Rattle.ira_order.specs.Run.{AreLocalRuns}
use Rattle.ira_view_moment.specs.Moment.{IsMoment, LeadsAt, Moment}
use Rattle.ira_view_election.specs.Election.{goes_on}
use Rattle.ira_view_election.specs.Coming.{MayCome}
use Rattle.ira_view_election.specs.ElectionAt.{Stands}

-- of logs of a ring that are local runs and match, one of which is an initiator's: an election that isn't over at a
-- moment goes on there, with something
abbrev pub MomentsGoOn : Type 0
MomentsGoOn =
    (logs : List Log) (cut : List ℕ) (m : Moment) (k : ℕ) (log : Log) → AreLogs logs → Matches logs → AreLocalRuns logs
    → IsConsistentCut logs cut → IsMoment logs cut m → slice_get logs k ≡ Some log → log.initiator ≡ true
    → (contenders : List ℕ) → ¬ (Stands m (goes_on [] contenders))

-- and where a node leads, nothing may come next
abbrev pub LeadersAreAtTheEnd : Type 0
LeadersAreAtTheEnd =
    (logs : List Log) (cut : List ℕ) (m : Moment) (i j : ℕ) (e : Event) → AreLogs logs → Matches logs
    → AreLocalRuns logs → IsConsistentCut logs cut → IsMoment logs cut m → LeadsAt m i → ¬ (MayCome m j e)
