-- Helpers, no definitions: the lists in which direct dependencies are kept, and the way back along them.
use Rattle.std.specs.Prelude.{◌≡◌, ◌≢◌, ℕ, ◌+◌, ◌-◌, ◌<◌, ◌≤◌, List, Some, length, slice_get, slice_index, take, nat_lt}
use Rattle.std.specs.Prelude.{if◌then◌else◌}
use Rattle.ira_event.specs.declared.event.Event.{Event}
use Rattle.ira_event.specs.declared.event.Event.TheVariants.{Sent}
use Rattle.ira_event.specs.declared.load.Load.{Load}
use Rattle.ira_event.specs.Log.{Log}
use Rattle.ira_order.specs.declared.node_dependencies.Sending.{Sending}
use Rattle.ira_order.specs.Ring.{log_of, numbered}
use Rattle.ira_order.specs.Matching.{sent, got}
use Rattle.ira_order.specs.Stamps.{AreReceipts, receipts_by}
use Rattle.ira_order.specs.VectorClock.{IsCount}

-- sending r of these events, counted from 0: its number, and how many receipts come before it
pub record IsSending (events : List Event) (r : ℕ) (sending : Sending) : Type 0 where
  pub message : Load
  pub sends : numbered events sending.number ≡ Some (Sent message)
  pub rank : length (sent (take sending.number events)) ≡ r + 1
  pub received : sending.received ≡ length (got (take sending.number events))

-- the sendings of a log
pub record AreSendings (events : List Event) (sendings : List Sending) : Type 0 where
  pub count : length sendings ≡ length (sent events)
  pub each : (r : ℕ) (sending : Sending) → slice_get sendings r ≡ Some sending → IsSending events r sending

-- the numbers of a node's receipts, and its sendings
pub record NodeDependencies : Type 0 where
  pub receipts : List ℕ
  pub sendings : List Sending

-- those of a log
pub record AreDependencies (events : List Event) (node : NodeDependencies) : Type 0 where
  pub receipts : AreReceipts events node.receipts
  pub sendings : AreSendings events node.sendings

-- those of each node of a ring
pub record AreDirectDependencies (logs : List Log) (nodes : List NodeDependencies) : Type 0 where
  pub places : length nodes ≡ length logs
  pub each : (j : ℕ) (node : NodeDependencies) → slice_get nodes j ≡ Some node → AreDependencies (log_of logs j) node

-- how many links lead from one node of a ring of n on to another, all n where they are the same
abbrev pub distance : ℕ → ℕ → ℕ → ℕ
distance n from to = if nat_lt from to then to - from else to + n - from

-- on the way back from event b of node j: what an event of node k counts of node i, up to which node k has received so
-- many messages, is what event b of node j counts of it
pub record IsWayBack (logs : List Log) (j b i k received : ℕ) : Type 0 where
  pub event : ℕ
  pub place : k < length logs
  pub within : event ≤ length (log_of logs k)
  pub receipts : received ≡ receipts_by logs k event
  pub counts : (n : ℕ) → IsCount logs k event i n → IsCount logs j b i n

-- the same for each node that the way back from node j to itself hasn't passed; those that it has passed have their
-- counts
pub record AreCountsSoFar (logs : List Log) (j b k received : ℕ) (counts : List ℕ) : Type 0 where
  pub place : k < length logs
  pub receipts : received ≤ length (got (log_of logs k))
  pub places : length counts ≡ length logs
  pub passed : (i : ℕ) → i < length logs → i ≢ j → distance (length logs) j k ≤ distance (length logs) i k
      → IsCount logs j b i (slice_index counts i)
  pub ahead : (i : ℕ) → i < length logs → distance (length logs) i k < distance (length logs) j k
      → (slice_index counts i ≡ 0) × IsWayBack logs j b i k received
