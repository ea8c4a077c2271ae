-- Helpers, no definitions: orders and cuts said by numbers of sendings and receipts. That they agree
-- with Order and Cut where the logs match is proved.
use Rattle.std.specs.Prelude.{◌≡◌, ℕ, ◌+◌, ◌<◌, ◌≤◌, List, length, All, take}
use Rattle.ira_event.specs.Log.{Log}
use Rattle.ira_order.specs.Ring.{next, log_of}
use Rattle.ira_order.specs.Matching.{Matches, sent, got}
use Rattle.ira_order.specs.Order.{occurrences}

-- on each link at most as many receipts as sendings, where node i has made (at i) events
abbrev pub Covers : List Log → (ℕ → ℕ) → Type 0
Covers logs at =
    (i : ℕ) → i < length logs → length (got (take (at (next (length logs) i)) (log_of logs (next (length logs) i))))
    ≤ length (sent (take (at i) (log_of logs i)))

-- the same of each beginning of a list of places
abbrev pub IsKept : List Log → List ℕ → Type 0
IsKept logs order = (t : ℕ) → t ≤ length order → Covers logs (occurrences (take t order))

-- a list of places that may be gone along, whether or not it is whole
pub record IsSchedule (logs : List Log) (order : List ℕ) : Type 0 where
  pub places : All (λ p. p < length logs) order
  pub within : (i : ℕ) → i < length logs → occurrences order i ≤ length (log_of logs i)
  pub kept : IsKept logs order

-- the next event of node i may come: there is one, and if it is a receipt, it is covered
abbrev pub IsReady : List Log → (ℕ → ℕ) → ℕ → Type 0
IsReady logs at i =
    (at i < length (log_of logs i))
    × ((j : ℕ) → j < length logs → next (length logs) j ≡ i
    → length (got (take (at i + 1) (log_of logs i))) ≤ length (sent (take (at j) (log_of logs j))))

-- each place stands as often as its log has events
abbrev pub IsWhole : List Log → List ℕ → Type 0
IsWhole logs order = (i : ℕ) → i < length logs → occurrences order i ≡ length (log_of logs i)

-- an order of logs that match
pub record IsWholeSchedule (logs : List Log) (order : List ℕ) : Type 0 where
  pub matches : Matches logs
  pub schedule : IsSchedule logs order
  pub whole : IsWhole logs order
