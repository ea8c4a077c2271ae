-- How many events of a node are known where an event happens: what vector clocks count (Mattern,
-- Virtual Time and Global States of Distributed Systems, 1989).
use Rattle.std.specs.Prelude.{◌≡◌, ◌≢◌, ℕ, ◌<◌, ◌≤◌, ◌↔◌, ◌⊎◌, List, length, slice_index}
use Rattle.std.specs.List.{sum_by}
use Rattle.ira_event.specs.Log.{Log}
use Rattle.ira_order.specs.Ring.{log_of}
use Rattle.ira_order.specs.Matching.{got}
use Rattle.ira_order.specs.Before.{Before}

-- event a of node i is event b of node j, or happened before it
abbrev pub AtOrBefore : List Log → ℕ → ℕ → ℕ → ℕ → Type 0
AtOrBefore logs i a j b = ((i ≡ j) × (a ≡ b)) ⊎ Before logs i a j b

-- n events of node i are event b of node j or happened before it: the first n of its log
pub record IsCount (logs : List Log) (j b i n : ℕ) : Type 0 where
  pub within : n ≤ length (log_of logs i)
  pub events : (a : ℕ) → 1 ≤ a → (a ≤ n) ↔ AtOrBefore logs i a j b

-- one number for each node: how many of its events are event b of node j or happened before it
pub record AreCounts (logs : List Log) (j b : ℕ) (counts : List ℕ) : Type 0 where
  pub places : length counts ≡ length logs
  pub each : (i : ℕ) → i < length logs → IsCount logs j b i (slice_index counts i)

-- the same but for node j itself, whose number is left open
pub record AreCountsOfOthers (logs : List Log) (j b : ℕ) (counts : List ℕ) : Type 0 where
  pub places : length counts ≡ length logs
  pub others : (i : ℕ) → i < length logs → i ≢ j → IsCount logs j b i (slice_index counts i)

-- how many receipts the logs have
abbrev pub receipt_count : List Log → ℕ
receipt_count logs = sum_by (λ log. length (got log.events)) logs
