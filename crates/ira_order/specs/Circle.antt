-- Whether logs have an order.
use Rattle.std.specs.Prelude.{List, ℕ}
use Rattle.ira_event.specs.Log.{Log}
use Rattle.ira_order.specs.Matching.{Matches}
use Rattle.ira_order.specs.Order.{IsOrder}

-- the logs match and have an order
abbrev pub HasOrder : List Log → Type 0
HasOrder logs = Matches logs × (order : List ℕ) × IsOrder logs order

-- the logs match and yet have no order: their events wait for one another in a circle
abbrev pub HasCircle : List Log → Type 0
HasCircle logs = Matches logs × ((order : List ℕ) → ¬ (IsOrder logs order))
