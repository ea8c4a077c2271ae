-- Laws of orders, cuts and runs.
use Rattle.std.specs.Prelude.{◌≡◌, ◌≤◌, ◌<◌, ◌⊎◌, ℕ, List, length, slice_index, take, slice_get, Some}
use Rattle.ira_event.specs.declared.event.Event.{Event}
use Rattle.ira_event.specs.Log.{Log}
use Rattle.ira_event.specs.Logs.{AreLogs}
use Rattle.ira_replay.specs.declared.replay_fault.ReplayFault.{ReplayFault}
use Rattle.ira_replay.specs.LocalRun.{IsFirstFault}
use Rattle.ira_order.specs.declared.match_fault.MatchFault.{MatchFault}
use Rattle.ira_order.specs.Matching.{Matches}
use Rattle.ira_order.specs.MatchFault.{IsMatchFault}
use Rattle.ira_order.specs.Circle.{HasOrder, HasCircle}
use Rattle.ira_order.specs.Before.{Before}
use Rattle.ira_order.specs.Ring.{log_of}
use Rattle.ira_order.specs.Order.{IsOrder, occurrences}
use Rattle.ira_order.specs.Cut.{IsConsistentCut, IsJoin, IsMeet}
use Rattle.ira_order.specs.VectorClock.{AreCounts}
use Rattle.ira_order.specs.Run.{IsRingRun, IsRunOfLogs, AreLocalRuns, places_of}
use Rattle.ira_order.specs.RunsOfLogs.{Means, EveryOrderIsRun, HaveNoRun}

-- each order means events
abbrev pub OrdersMeanEvents : Type 0
OrdersMeanEvents = (logs : List Log) (order : List ℕ) → IsOrder logs order → (run : List (ℕ × Event))
    × Means logs order run

-- each order of matched logs that are local runs is a run of the ring: it means events, and whatever
-- events it means are one
abbrev pub OrdersAreRuns : Type 0
OrdersAreRuns = (logs : List Log) → AreLogs logs → Matches logs → AreLocalRuns logs → EveryOrderIsRun logs

-- logs of which a run of the ring is a run match, are local runs, and have its places as an order
abbrev pub RunsAreOrders : Type 0
RunsAreOrders =
    (logs : List Log) (run : List (ℕ × Event)) → AreLogs logs → IsRingRun logs run → IsRunOfLogs logs run
    → Matches logs × AreLocalRuns logs × IsOrder logs (places_of run)

-- logs with a fault of matching are the logs of no run of the ring
abbrev pub UnmatchedLogsHaveNoRun : Type 0
UnmatchedLogsHaveNoRun = (logs : List Log) (f : MatchFault) → AreLogs logs → IsMatchFault logs f → HaveNoRun logs

-- logs that match and have no order are the logs of no run of the ring
abbrev pub CircledLogsHaveNoRun : Type 0
CircledLogsHaveNoRun = (logs : List Log) → AreLogs logs → HasCircle logs → HaveNoRun logs

-- logs one of which has an event without a node step are the logs of no run of the ring
abbrev pub FaultyLogsHaveNoRun : Type 0
FaultyLogsHaveNoRun =
    (logs : List Log) (i : ℕ) (log : Log) (f : ReplayFault) → AreLogs logs → slice_get logs i ≡ Some log
    → IsFirstFault log f → HaveNoRun logs

-- how often each place stands in a beginning of an order is a consistent cut
abbrev pub MomentsAreCuts : Type 0
MomentsAreCuts =
    (logs : List Log) (order cut : List ℕ) (t : ℕ) → AreLogs logs → Matches logs → IsOrder logs order → t ≤ length order
    → length cut ≡ length logs → ((i : ℕ) → i < length logs → slice_index cut i ≡ occurrences (take t order) i)
    → IsConsistentCut logs cut

-- each consistent cut of logs that have an order is how often each place stands in a beginning of
-- some order
abbrev pub CutsAreMoments : Type 0
CutsAreMoments =
    (logs : List Log) (order cut : List ℕ) → AreLogs logs → Matches logs → IsOrder logs order → IsConsistentCut logs cut
    → (other : List ℕ) × (t : ℕ) × IsOrder logs other × (t ≤ length other)
    × ((i : ℕ) → i < length logs → slice_index cut i ≡ occurrences (take t other) i)

-- in logs that have an order each event has its counts, and so has the beginning of each log
abbrev pub EventsHaveCounts : Type 0
EventsHaveCounts = (logs : List Log) (j b : ℕ) → HasOrder logs → j < length logs → b ≤ length (log_of logs j)
    → (counts : List ℕ) × AreCounts logs j b counts

-- and whether one event happened before another is decided
abbrev pub HappenedBeforeIsDecided : Type 0
HappenedBeforeIsDecided = (logs : List Log) (i a j b : ℕ) → HasOrder logs → Before logs i a j b
    ⊎ ¬ (Before logs i a j b)

-- the counts of an event are a consistent cut
abbrev pub CountsAreCuts : Type 0
CountsAreCuts = (logs : List Log) (j b : ℕ) (counts : List ℕ) → AreCounts logs j b counts → IsConsistentCut logs counts

-- and the least consistent cut that holds the event
abbrev pub CountsAreLeast : Type 0
CountsAreLeast =
    (logs : List Log) (j b : ℕ) (counts cut : List ℕ) → j < length logs → AreCounts logs j b counts
    → IsConsistentCut logs cut
    → (b ≤ slice_index counts j)
    × (b ≤ slice_index cut j → (i : ℕ) → i < length logs → slice_index counts i ≤ slice_index cut i)

-- the join of two consistent cuts is one
abbrev pub JoinsAreCuts : Type 0
JoinsAreCuts = (logs : List Log) (a b cut : List ℕ) → IsConsistentCut logs a → IsConsistentCut logs b
    → IsJoin logs a b cut → IsConsistentCut logs cut

-- and so is their meet
abbrev pub MeetsAreCuts : Type 0
MeetsAreCuts = (logs : List Log) (a b cut : List ℕ) → IsConsistentCut logs a → IsConsistentCut logs b
    → IsMeet logs a b cut → IsConsistentCut logs cut
