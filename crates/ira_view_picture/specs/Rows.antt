-- Helpers, no definitions: the columns of a node's events, as far as lanes need them.
use Rattle.std.specs.Prelude.{◌≡◌, ℕ, List, Some, length, slice_get}
use Rattle.ira_event.specs.declared.event.Event.{Event}
use Rattle.ira_event.specs.Log.{Log}
use Rattle.ira_order.specs.FaultyEvent.{Rises}
use Rattle.ira_order.specs.Ring.{log_of}

-- a column for each of these events, right of that of the event before
pub record IsRow (events : List Event) (columns : List ℕ) : Type 0 where
  pub count : length columns ≡ length events
  pub rise : Rises (λ c. c) columns

-- the same of each node's events
pub record AreRows (logs : List Log) (table : List (List ℕ)) : Type 0 where
  pub places : length table ≡ length logs
  pub each : (i : ℕ) (row : List ℕ) → slice_get table i ≡ Some row → IsRow (log_of logs i) row
