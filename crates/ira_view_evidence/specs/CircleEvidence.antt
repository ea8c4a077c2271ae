-- Where the nodes of a ring are stuck when as many events as can be are put in order.
use Rattle.std.specs.Prelude.{◌≡◌, ℕ, ◌+◌, ◌<◌, ◌≤◌, List, Some, length, slice_get, slice_index, sum}
use Rattle.ira_event.specs.declared.event.Event.TheVariants.{Got}
use Rattle.ira_event.specs.Log.{Log}
use Rattle.ira_order.specs.Counts.{IsSchedule}
use Rattle.ira_order.specs.Order.{IsPair, occurrences}
use Rattle.ira_order.specs.Ring.{log_of, next, numbered, prev}
use Rattle.ira_view_evidence.specs.declared.stuck_at.StuckAt.{StuckAt}

-- no order holds more events of a node
abbrev pub BoundsOrders : List Log → List ℕ → Type 0
BoundsOrders logs cut =
    (order : List ℕ) → IsSchedule logs order → (i : ℕ) → i < length logs → occurrences order i ≤ slice_index cut i

-- for each node how many of its events can be put in order: there is an order of just these events, and none that holds
-- more of a node
pub record IsLongestPrefix (logs : List Log) (cut : List ℕ) : Type 0 where
  pub places : length cut ≡ length logs
  pub order : List ℕ
  pub ordered : IsSchedule logs order
  pub holds : (i : ℕ) → i < length logs → slice_index cut i ≡ occurrences order i
  pub longest : BoundsOrders logs cut

-- the next node is stuck at a receipt whose sending node i makes only after the event at which it is stuck itself
abbrev pub IsWaitedFor : List Log → List ℕ → ℕ → Type 0
IsWaitedFor logs cut i =
    (a : ℕ) × IsPair logs i a (slice_index cut (next (length logs) i) + 1) × (slice_index cut i + 1 < a)

-- for each node how many events come before the one at which it is stuck, a circle once round the ring
pub record IsCircle (logs : List Log) (cut : List ℕ) : Type 0 where
  pub places : length cut ≡ length logs
  pub waits : (i : ℕ) → i < length logs → IsWaitedFor logs cut i

-- the receipt at which node j is stuck after n events, and its sending
pub record IsStuckAt (logs : List Log) (j n : ℕ) (s : StuckAt) : Type 0 where
  pub node : s.receipt.place ≡ j
  pub position : s.receipt.position ≡ n + 1
  pub received : numbered (log_of logs j) (n + 1) ≡ Some (Got s.load)
  pub sender : s.sending.place ≡ prev (length logs) j
  pub pair : IsPair logs (prev (length logs) j) s.sending.position (n + 1)

-- so many events can be put in order, and these are the receipts at which the nodes are stuck, in the order of places:
-- a circle once round the ring
pub record IsCircleEvidence (logs : List Log) (ordered : ℕ) (stuck : List StuckAt) : Type 0 where
  pub places : length stuck ≡ length logs
  pub cut : List ℕ
  pub longest : IsLongestPrefix logs cut
  pub total : ordered ≡ sum cut
  pub circle : IsCircle logs cut
  pub each : (j : ℕ) (s : StuckAt) → slice_get stuck j ≡ Some s → IsStuckAt logs j (slice_index cut j) s
