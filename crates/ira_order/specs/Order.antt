-- Orders of logs: each event once, in the order of its log, and each receipt after its sending. An
-- order of this kind is a linear extension of happened-before (Lamport, Time, Clocks, and the
-- Ordering of Events in a Distributed System, 1978).
use Rattle.std.specs.Prelude.{◌≡◌, ℕ, ◌+◌, ◌<◌, ◌==◌, List, Some, length, slice_get, All, count_by, take}
use Rattle.ira_event.specs.declared.load.Load.{Load}
use Rattle.ira_event.specs.declared.event.Event.TheVariants.{Sent, Got}
use Rattle.ira_event.specs.Log.{Log}
use Rattle.ira_order.specs.Ring.{next, log_of, numbered}
use Rattle.ira_order.specs.Matching.{sent, got}

-- how often place i stands in a list of places
abbrev pub occurrences : List ℕ → ℕ → ℕ
occurrences places i = count_by (λ p. p == i) places

-- at position t, counted from 0, place i stands for the a-th time, and so means event a of node i
abbrev pub StandsAt : List ℕ → ℕ → ℕ → ℕ → Type 0
StandsAt places t i a = (slice_get places t ≡ Some i) × (occurrences (take t places) i + 1 ≡ a)

-- event a of node i is a sending, event b of the next node is a receipt, and each is the k-th of its
-- kind in its log, for one k
pub record IsPair (logs : List Log) (i a b : ℕ) : Type 0 where
  pub message : Load
  pub taken : Load
  pub link : i < length logs
  pub sends : numbered (log_of logs i) a ≡ Some (Sent message)
  pub receives : numbered (log_of logs (next (length logs) i)) b ≡ Some (Got taken)
  pub rank : length (sent (take a (log_of logs i))) ≡ length (got (take b (log_of logs (next (length logs) i))))

-- of logs that match: each place stands as often as its log has events, and each receipt stands after
-- its sending
pub record IsOrder (logs : List Log) (order : List ℕ) : Type 0 where
  pub places : All (λ p. p < length logs) order
  pub whole : (i : ℕ) → i < length logs → occurrences order i ≡ length (log_of logs i)
  pub after : (i a b s t : ℕ) → IsPair logs i a b → StandsAt order s i a → StandsAt order t (next (length logs) i) b
      → s < t
