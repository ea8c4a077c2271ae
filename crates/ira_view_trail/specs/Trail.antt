-- All events in one order, by their columns.
use Rattle.std.specs.Prelude.{◌≡◌, ◌↔◌, ℕ, ◌<◌, ◌≤◌, All, IsTrue, List, Some, length, map, slice_get, slice_index, take}
use Rattle.ira_event.specs.Log.{Log}
use Rattle.ira_order.specs.Order.{StandsAt, occurrences}
use Rattle.ira_order.specs.Ring.{log_of}
use Rattle.ira_view_trail.specs.declared.trail_step.TrailStep.{TrailStep}
use Rattle.ira_view_trail.specs.Columns.{AreColumnsOf, Columns, IsEvent, column_of}

-- each event stands once in the order, in the order of its log, and those of lesser columns before it
pub record IsPlayed (logs : List Log) (column : ℕ → ℕ → ℕ) (order : List ℕ) : Type 0 where
  pub places : All (λ p. p < length logs) order
  pub whole : (i : ℕ) → i < length logs → occurrences order i ≡ length (log_of logs i)
  pub rising :
      (s t i a j b : ℕ) → StandsAt order s i a → StandsAt order t j b → column i a < column j b → s < t

-- the events of the cut stand before all others
abbrev pub CutIsFirst : List ℕ → List ℕ → Type 0
CutIsFirst cut order =
    (s t i a j b : ℕ) → StandsAt order s i a → StandsAt order t j b → a ≤ slice_index cut i → slice_index cut j < b
    → s < t

-- the places of these steps
abbrev pub places_of : List TrailStep → List ℕ
places_of steps = map (λ step. step.place) steps

-- step t, counted from 0, of an order has the event that stands there, its column, and whether it is one of the cut
pub record TellsEvent (cut : List ℕ) (columns : Columns) (order : List ℕ) (t : ℕ) (step : TrailStep) : Type 0 where
  pub event : StandsAt order t step.place step.event
  pub column : step.column ≡ column_of columns step.place step.event
  pub in_cut : IsTrue step.in_cut ↔ (step.event ≤ slice_index cut step.place)

-- the steps are all events by their columns, each with what it is
pub record IsTrail (logs : List Log) (cut : List ℕ) (steps : List TrailStep) : Type 0 where
  pub columns : Columns
  pub columns_are : AreColumnsOf logs cut columns
  pub played : IsPlayed logs (column_of columns) (places_of steps)
  pub each : (t : ℕ) (step : TrailStep) → slice_get steps t ≡ Some step
      → TellsEvent cut columns (places_of steps) t step

-- ---- Helpers, no definitions: how far an order has come.

-- the order so far has exactly the events left of this column, and of nodes before this place those at it
pub record IsPlayedTo (logs : List Log) (column : ℕ → ℕ → ℕ) (now place : ℕ) (order : List ℕ) : Type 0 where
  pub places : All (λ p. p < length logs) order
  pub within : (i : ℕ) → i < length logs → occurrences order i ≤ length (log_of logs i)
  pub there : (i a : ℕ) → IsEvent logs i a → i < place → (a ≤ occurrences order i) ↔ (column i a ≤ now)
  pub ahead : (i a : ℕ) → IsEvent logs i a → place ≤ i → (a ≤ occurrences order i) ↔ (column i a < now)
  pub closed : (t j b i a : ℕ) → StandsAt order t j b → IsEvent logs i a → column i a < column j b
      → a ≤ occurrences (take t order) i
