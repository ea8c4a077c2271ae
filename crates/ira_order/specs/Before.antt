-- Happened-before (Mattern, Virtual Time and Global States of Distributed Systems, 1989; Lamport,
-- Time, Clocks, and the Ordering of Events in a Distributed System, 1978).
use Rattle.std.specs.Prelude.{◌≡◌, ℕ, ◌<◌, ◌≤◌, List, length}
use Rattle.ira_event.specs.Log.{Log}
use Rattle.ira_order.specs.Ring.{log_of, next}
use Rattle.ira_order.specs.Order.{IsPair}

-- event a of node i happened before event b of node j: the least transitive relation that has each
-- node's own order and puts each sending before its receipt
pub data Before (logs : List Log) : ℕ → ℕ → ℕ → ℕ → Type 0 where
  own : {i a j b : ℕ} → i ≡ j → i < length logs → 1 ≤ a → a < b → b ≤ length (log_of logs i) → Before logs i a j b
  message : {i a j b : ℕ} → next (length logs) i ≡ j → IsPair logs i a b → Before logs i a j b
  onward : {i a j b k c : ℕ} → Before logs i a j b → Before logs j b k c → Before logs i a k c
