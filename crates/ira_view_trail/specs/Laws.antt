-- Laws of columns and of the order by them.
use Rattle.std.specs.Prelude.{◌↔◌, ℕ, ◌<◌, ◌≤◌, List, slice_index}
use Rattle.ira_event.specs.Log.{Log}
use Rattle.ira_order.specs.Before.{Before}
use Rattle.ira_order.specs.Circle.{HasOrder}
use Rattle.ira_order.specs.Cut.{IsConsistentCut}
use Rattle.ira_order.specs.Order.{IsOrder}
use Rattle.ira_view_trail.specs.Columns.{AreColumns, IsEvent}
use Rattle.ira_view_trail.specs.Trail.{CutIsFirst, IsPlayed}

-- of logs that have an order, what happened before an event is left of it
abbrev pub ColumnsRise : Type 0
ColumnsRise =
    (logs : List Log) (cut : List ℕ) (column : ℕ → ℕ → ℕ) (line i a j b : ℕ) → AreColumns logs cut column line
    → HasOrder logs → Before logs i a j b → column i a < column j b

-- and the events up to a column are those of a consistent cut
abbrev pub LinesAreCuts : Type 0
LinesAreCuts =
    (logs : List Log) (cut : List ℕ) (column : ℕ → ℕ → ℕ) (line k : ℕ) → AreColumns logs cut column line
    → HasOrder logs → (left : List ℕ) × IsConsistentCut logs left
    × ((i a : ℕ) → IsEvent logs i a → (a ≤ slice_index left i) ↔ (column i a ≤ k))

-- and the order by columns is one of all events, which begins with the cut
abbrev pub PlayedAreOrders : Type 0
PlayedAreOrders =
    (logs : List Log) (cut : List ℕ) (column : ℕ → ℕ → ℕ) (line : ℕ) (order : List ℕ)
    → AreColumns logs cut column line → IsPlayed logs column order → HasOrder logs
    → IsOrder logs order × CutIsFirst cut order
