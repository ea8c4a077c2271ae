-- The ring in another order of the places.
use Rattle.std.specs.Prelude.{◌≡◌, ℕ, ◌<◌, List, ◌++◌, Some, length, slice_get}
use Rattle.ira_event.specs.declared.event.Event.{Event}
use Rattle.ira_event.specs.declared.load.Load.{Load}
use Rattle.ira_event.specs.Log.{Log}
use Rattle.ira_order.specs.Matching.{got, sent}
use Rattle.ira_order.specs.Ring.{log_of, prev}

-- the reader received what the writer sent, one by one, as far as it goes
abbrev pub Takes : List Event → List Event → Type 0
Takes writer reader = (rest : List Load) × (sent writer ≡ got reader ++ rest)

-- the places of the logs, each once, such that each node takes from the one before it, and the first from the last
pub record IsRingOrder (logs : List Log) (order : List ℕ) : Type 0 where
  pub places : length order ≡ length logs
  pub in_ring : (i place : ℕ) → slice_get order i ≡ Some place → place < length logs
  pub once : (i j place : ℕ) → slice_get order i ≡ Some place → slice_get order j ≡ Some place → i ≡ j
  pub takes : (i a b : ℕ) → slice_get order (prev (length order) i) ≡ Some a → slice_get order i ≡ Some b
      → Takes (log_of logs a) (log_of logs b)

-- a helper, no definition: the same of place i alone
pub record StandsAt (logs : List Log) (order : List ℕ) (i : ℕ) : Type 0 where
  pub in_ring : (place : ℕ) → slice_get order i ≡ Some place → place < length logs
  pub new : (j place : ℕ) → j < i → slice_get order j ≡ Some place → ¬ (slice_get order i ≡ Some place)
  pub takes : (a b : ℕ) → slice_get order (prev (length order) i) ≡ Some a → slice_get order i ≡ Some b
      → Takes (log_of logs a) (log_of logs b)
