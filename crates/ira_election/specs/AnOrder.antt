-- Local runs that match have an order.
use Rattle.std.specs.Prelude.{List, [], ◌∷◌, false}
use Rattle.ira_event.specs.declared.event.Event.TheVariants.{Sent, Got}
use Rattle.ira_event.specs.Log.{Log}
use Rattle.ira_event.specs.Logs.{AreLogs}
use Rattle.ira_order.specs.Circle.{HasOrder, HasCircle}
use Rattle.ira_order.specs.Matching.{Matches}
use Rattle.ira_order.specs.Run.{AreLocalRuns}
use Rattle.ira_safety.specs.TwoNodes.{hopped, log_of_two}

-- logs of a ring that match, and all of whose events have steps, have an order
abbrev pub LocalRunsHaveAnOrder : Type 0
LocalRunsHaveAnOrder = (logs : List Log) → AreLogs logs → Matches logs → AreLocalRuns logs → HasOrder logs

-- so where the events of logs wait for one another in a circle, some event has no step
abbrev pub CirclesHaveAFault : Type 0
CirclesHaveAFault = (logs : List Log) → AreLogs logs → HasCircle logs → ¬ (AreLocalRuns logs)

-- the logs of two nodes each of which passes on what the other passes on: the second raises no hop
abbrev pub exchanged : List Log
exchanged = log_of_two 1 0 false (Got (hopped 1 1) ∷ Sent (hopped 1 2) ∷ [])
    ∷ log_of_two 1 1 false (Got (hopped 1 2) ∷ Sent (hopped 1 1) ∷ []) ∷ []

-- they match and have no order
abbrev pub MatchingIsNotEnough : Type 0
MatchingIsNotEnough = AreLogs exchanged × HasCircle exchanged
