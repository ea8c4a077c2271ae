-- Laws of what a no rests on.
use Rattle.std.specs.Prelude.{◌≡◌, ℕ, ◌⊎◌, List, Some, slice_get, take}
use Rattle.ira_event.specs.Log.{Log}
use Rattle.ira_event.specs.Logs.{AreLogs}
use Rattle.ira_node.specs.declared.node_state.NodeState.{NodeState}
use Rattle.ira_node.specs.NodeState.{first_state}
use Rattle.ira_order.specs.Before.{Before}
use Rattle.ira_order.specs.Circle.{HasOrder}
use Rattle.ira_order.specs.Matching.{Matches}
use Rattle.ira_order.specs.Order.{IsOrder}
use Rattle.ira_replay.specs.LocalRun.{LeadsTo}
use Rattle.ira_order.specs.declared.faulty_event.FaultyEvent.{FaultyEvent}
use Rattle.ira_view_evidence.specs.Origin.{HappenedBefore, IsOrigin}
use Rattle.ira_view_evidence.specs.CircleEvidence.{IsCircle, IsLongestPrefix}
use Rattle.ira_order.specs.FaultyEvent.{IsFirstFaultyEvent}

-- logs with a circle once round the ring have no order
abbrev pub CirclesHaveNoOrder : Type 0
CirclesHaveNoOrder = (logs : List Log) (cut order : List ℕ) → AreLogs logs → IsCircle logs cut → ¬ (IsOrder logs order)

-- the longest prefix of logs that match is an order of all events, or the receipts after it are such a circle
abbrev pub LongestPrefixesEndInCircles : Type 0
LongestPrefixesEndInCircles =
    (logs : List Log) (cut : List ℕ) → AreLogs logs → Matches logs → IsLongestPrefix logs cut
    → HasOrder logs ⊎ IsCircle logs cut

-- logs that match have an order or such a circle
abbrev pub AnOrderOrACircle : Type 0
AnOrderOrACircle =
    (logs : List Log) → AreLogs logs → Matches logs → HasOrder logs ⊎ ((cut : List ℕ) × IsCircle logs cut)

-- where some event has no step there is an origin: the named event, or one that happened before it
abbrev pub SomeOrigin : Type 0
SomeOrigin =
    (logs : List Log) (named : FaultyEvent) → HasOrder logs → IsFirstFaultyEvent logs named
    → IsOrigin logs named ⊎ ((s : FaultyEvent) × IsOrigin logs s × HappenedBefore logs s.at named.at)

-- all events that happened before an origin have steps: the log of each leads on to a state
abbrev pub StepsBeforeAnOrigin : Type 0
StepsBeforeAnOrigin =
    (logs : List Log) (s : FaultyEvent) (j b : ℕ) (log : Log) → IsOrigin logs s
    → Before logs j b s.at.place s.at.position → slice_get logs j ≡ Some log
    → (t : NodeState) × LeadsTo log.nodes (first_state log.initiator) (take b log.events) t
