-- Beginnings of the logs of a ring in which no receipt lacks its sending.
use Rattle.std.specs.Prelude.{◌≡◌, ℕ, ◌<◌, ◌≤◌, List, Some, length, slice_get, slice_index, take}
use Rattle.ira_event.specs.Log.{Log}
use Rattle.ira_order.specs.Cut.{IsCut}
use Rattle.ira_order.specs.Matching.{got, sent}
use Rattle.ira_order.specs.Ring.{log_of, next}

-- the log with its first n events alone
abbrev pub begun : Log → ℕ → Log
begun log n = record log { events = take n log.events }

-- of each log as many events as the cut holds
pub record AreBegun (logs : List Log) (cut : List ℕ) (beginnings : List Log) : Type 0 where
  pub places : length beginnings ≡ length logs
  pub each : (i : ℕ) (log : Log) → slice_get logs i ≡ Some log
      → slice_get beginnings i ≡ Some (begun log (slice_index cut i))

-- how many receipts, and how many sendings, the first n events of node i are
abbrev pub receipts_in : List Log → ℕ → ℕ → ℕ
receipts_in logs i n = length (got (take n (log_of logs i)))

abbrev pub sendings_in : List Log → ℕ → ℕ → ℕ
sendings_in logs i n = length (sent (take n (log_of logs i)))

-- the cut holds no more receipts of a link than sendings
pub record IsConsistentBeginning (logs : List Log) (cut : List ℕ) : Type 0 where
  pub cut_is : IsCut logs cut
  pub sendings : (i : ℕ) → i < length logs
      → receipts_in logs (next (length logs) i) (slice_index cut (next (length logs) i))
      ≤ sendings_in logs i (slice_index cut i)

-- and each other such cut is at most this one
pub record IsGreatestBeginning (logs : List Log) (cut : List ℕ) : Type 0 where
  pub consistent : IsConsistentBeginning logs cut
  pub greatest : (other : List ℕ) → IsConsistentBeginning logs other → (i : ℕ) → i < length logs
      → slice_index other i ≤ slice_index cut i
