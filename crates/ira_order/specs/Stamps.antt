-- Helpers, no definitions: the lists in which stamps are kept.
use Rattle.std.specs.Prelude.{◌≡◌, ◌≢◌, ℕ, zero, suc, ◌+◌, ◌*◌, ◌<◌, ◌≤◌, ◌↔◌, min, List, [], ◌++◌, length, slice_index}
use Rattle.std.specs.Prelude.{slice_index_or, take}
use Rattle.ira_event.specs.declared.event.Event.{Event}
use Rattle.ira_event.specs.Log.{Log}
use Rattle.ira_order.specs.Ring.{log_of, next}
use Rattle.ira_order.specs.Matching.{sent, got}
use Rattle.ira_order.specs.Order.{IsPair}
use Rattle.ira_order.specs.VectorClock.{IsCount}

-- how many receipts there are among the first b events of node j
abbrev pub receipts_by : List Log → ℕ → ℕ → ℕ
receipts_by logs j b = length (got (take b (log_of logs j)))

-- the numbers of a node's receipts, and the counters of their stamps, one after the other
pub record NodeStamps : Type 0 where
  pub numbers : List ℕ
  pub counters : List ℕ

-- the numbers of node j's receipts, and the counters of their stamps
abbrev pub stamps_at : List NodeStamps → ℕ → NodeStamps
stamps_at stamps j = slice_index_or stamps j (record { numbers = []; counters = [] })

abbrev pub numbers_at : List NodeStamps → ℕ → List ℕ
numbers_at stamps j = (stamps_at stamps j).numbers

abbrev pub counters_at : List NodeStamps → ℕ → List ℕ
counters_at stamps j = (stamps_at stamps j).counters

-- the numbers in a log of its receipts: up to event x there are more than r of them, just where
-- number r, counted from 0, is at most x
pub record AreReceipts (events : List Event) (numbers : List ℕ) : Type 0 where
  pub count : length numbers ≡ length (got events)
  pub upto : (r x : ℕ) → r < length numbers → (slice_index numbers r ≤ x) ↔ (r < length (got (take x events)))

-- the counter of node i in stamp g of these, for n nodes; stamps count from 1, and for 0 it is 0
abbrev pub counter : ℕ → List ℕ → ℕ → ℕ → ℕ
counter n counters zero i = 0
counter n counters (suc r) i = slice_index counters (r * n + i)

-- the counters of stamp g
pub record IsRow (n : ℕ) (counters : List ℕ) (g : ℕ) (row : List ℕ) : Type 0 where
  pub wide : length row ≡ n
  pub each : (i : ℕ) → i < n → slice_index row i ≡ counter n counters g i

-- the receipts of each node, whatever their stamps
pub record IsTable (logs : List Log) (stamps : List NodeStamps) : Type 0 where
  pub places : length stamps ≡ length logs
  pub receipts : (j : ℕ) → j < length logs → AreReceipts (log_of logs j) (numbers_at stamps j)

-- and no stamp
pub record AreUnstamped (logs : List Log) (stamps : List NodeStamps) : Type 0 where
  pub table : IsTable logs stamps
  pub none : (j : ℕ) → j < length logs → counters_at stamps j ≡ []

-- the counters of the last receipt up to event b of node j count the events of the other nodes
abbrev pub CountsAt : List Log → List NodeStamps → ℕ → ℕ → Type 0
CountsAt logs stamps j b = (i : ℕ) → i < length logs → i ≢ j
    → IsCount logs j b i (counter (length logs) (counters_at stamps j) (receipts_by logs j b) i)

-- they do so for each receipt whose sending is among the first (at k) events of its node k
abbrev pub CountsSent : List Log → List NodeStamps → (ℕ → ℕ) → Type 0
CountsSent logs stamps at = (k a b : ℕ) → IsPair logs k a b → a ≤ at k → CountsAt logs stamps (next (length logs) k) b

-- just these receipts have a stamp
abbrev pub HaveStamps : List Log → List NodeStamps → (ℕ → ℕ) → Type 0
HaveStamps logs stamps at =
    (k : ℕ) → k < length logs → length (counters_at stamps (next (length logs) k))
    ≡ min (length (sent (take (at k) (log_of logs k)))) (length (got (log_of logs (next (length logs) k)))) * length
    logs

-- each receipt has a stamp, and each event's counters count
pub record AreStamps (logs : List Log) (stamps : List NodeStamps) : Type 0 where
  pub table : IsTable logs stamps
  pub whole : (j : ℕ) → j < length logs → length (counters_at stamps j) ≡ length (got (log_of logs j)) * length logs
  pub counts : (j b : ℕ) → j < length logs → b ≤ length (log_of logs j) → CountsAt logs stamps j b

-- the counters of node k after its receipt h, with its own count a
pub record IsStamp (logs : List Log) (stamps : List NodeStamps) (k h a : ℕ) (row : List ℕ) : Type 0 where
  pub wide : length logs ≤ length row
  pub own : slice_index row k ≡ a
  pub sender : (i : ℕ) → i < length logs → i ≢ k → slice_index row i ≡ counter (length logs) (counters_at stamps k) h i

-- the next node has a stamp more, this one, if it has more than s receipts, and all else stays
pub record IsStamping (logs : List Log) (old new : List NodeStamps) (k h s a : ℕ) : Type 0 where
  pub table : IsTable logs new
  pub others : (l : ℕ) → l ≢ next (length logs) k → counters_at new l ≡ counters_at old l
  pub none : length (got (log_of logs (next (length logs) k))) ≤ s
      → counters_at new (next (length logs) k) ≡ counters_at old (next (length logs) k)
  pub more : s < length (got (log_of logs (next (length logs) k))) → (row : List ℕ) × IsStamp logs old k h a row
      × (counters_at new (next (length logs) k) ≡ counters_at old (next (length logs) k) ++ take (length logs) row)
