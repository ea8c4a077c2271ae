-- Logs together with an order of their events.
use Rattle.std.specs.Prelude.{ℕ, List}
use Rattle.ira_event.specs.Log.{Log}
use Rattle.ira_event.specs.Logs.{AreLogs}
use Rattle.ira_order.specs.Matching.{Matches}
use Rattle.ira_order.specs.Order.{IsOrder}

-- logs, and a list of places
pub record Ordered : Type 0 where
  pub logs : List Log
  pub schedule : List ℕ

-- they are the logs of one ring, they match, and the list is an order of them
pub record IsOrdered (o : Ordered) : Type 0 where
  pub logs : AreLogs o.logs
  pub matches : Matches o.logs
  pub order : IsOrder o.logs o.schedule
