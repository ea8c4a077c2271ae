-- A column for each event, right of all that happened before it, and a line that parts the events of a cut from others.
use Rattle.std.specs.Prelude.{◌≡◌, ◌⊎◌, ℕ, ◌-◌, ◌<◌, ◌≤◌, List, [], Option, None, Some}
use Rattle.std.specs.Prelude.{length, map, slice_get, slice_index, slice_index_or}
use Rattle.ira_event.specs.Log.{Log}
use Rattle.ira_order.specs.Circle.{HasOrder}
use Rattle.ira_order.specs.Order.{IsPair}
use Rattle.ira_order.specs.Ring.{log_of, next}

-- event a of node i is there
pub record IsEvent (logs : List Log) (i a : ℕ) : Type 0 where
  pub place : i < length logs
  pub first : 1 ≤ a
  pub within : a ≤ length (log_of logs i)

-- each event is right of those before it in its log, those of the cut are left of the line and all others right of it;
-- and of logs that have an order each receipt is right of its sending
pub record AreColumns (logs : List Log) (cut : List ℕ) (column : ℕ → ℕ → ℕ) (line : ℕ) : Type 0 where
  pub first : (i a : ℕ) → IsEvent logs i a → 1 ≤ column i a
  pub own : (i a b : ℕ) → IsEvent logs i b → 1 ≤ a → a < b → column i a < column i b
  pub inside : (i a : ℕ) → IsEvent logs i a → a ≤ slice_index cut i → column i a < line
  pub outside : (i a : ℕ) → IsEvent logs i a → slice_index cut i < a → line < column i a
  pub received : HasOrder logs → (i a b : ℕ) → IsPair logs i a b
      → column i a < column (next (length logs) i) b

-- the cut where there is one, else all events
abbrev pub cut_or_all : List Log → Option (List ℕ) → List ℕ
cut_or_all logs (Some cut) = cut
cut_or_all logs None = map (λ log. length log.events) logs

-- the column of event a of node i, counted from 1, in a table with a list for each node
abbrev pub column_at : List (List ℕ) → ℕ → ℕ → ℕ
column_at table i a = slice_index (slice_index_or table i []) (a - 1)

-- none of these columns is right of this one
abbrev pub AreUpTo : ℕ → List ℕ → Type 0
AreUpTo last columns = (k c : ℕ) → slice_get columns k ≡ Some c → c ≤ last

-- the last column of all in a table with a list for each node, 0 where there is none
pub record IsLastColumn (table : List (List ℕ)) (last : ℕ) : Type 0 where
  pub bound : (i : ℕ) (row : List ℕ) → slice_get table i ≡ Some row → AreUpTo last row
  pub reached : (last ≡ 0)
      ⊎ ((i k : ℕ) × (row : List ℕ) × (slice_get table i ≡ Some row) × (slice_get row k ≡ Some last))

-- the columns of each node, event by event, and that of the line at the end of the cut
pub record Columns : Type 0 where
  pub nodes : List (List ℕ)
  pub line : ℕ

-- the column of event a of node i
abbrev pub column_of : Columns → ℕ → ℕ → ℕ
column_of columns = column_at columns.nodes

-- they are those of the logs with this cut
pub record AreColumnsOf (logs : List Log) (cut : List ℕ) (columns : Columns) : Type 0 where
  pub places : length columns.nodes ≡ length logs
  pub events : (i : ℕ) → i < length logs → length (slice_index_or columns.nodes i []) ≡ length (log_of logs i)
  pub each : AreColumns logs cut (column_of columns) columns.line
