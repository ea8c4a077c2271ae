-- The beginning of an order.
use Rattle.std.specs.Prelude.{◌≡◌, ℕ, ◌<◌, List, ◌++◌, length, slice_index_or}
use Rattle.std.specs.List.{sum_by}
use Rattle.ira_event.specs.Log.{Log}
use Rattle.ira_event.specs.Logs.{AreLogs}
use Rattle.ira_order.specs.declared.tally.Tally.{Tally}
use Rattle.ira_order.specs.Ring.{log_of}
use Rattle.ira_order.specs.Order.{occurrences}
use Rattle.ira_order.specs.Counts.{IsSchedule, IsReady}
use Rattle.ira_order.specs.Tally.{IsTally, no_events}

-- the places of events, and how far each node has come by them
pub record OrderPrefix : Type 0 where
  pub places : List ℕ
  pub tallies : List Tally

-- how far node i has come
abbrev pub tally_at : List Tally → ℕ → Tally
tally_at tallies i = slice_index_or tallies i no_events

-- events that can come one after the other, each receipt after its sending, and how far each node has come by them
pub record IsOrderPrefix (logs : List Log) (p : OrderPrefix) : Type 0 where
  pub logs_are : AreLogs logs
  pub schedule : IsSchedule logs p.places
  pub nodes : length p.tallies ≡ length logs
  pub each : (i : ℕ) → i < length logs → IsTally (log_of logs i) (occurrences p.places i) (tally_at p.tallies i)
  pub total : sum_by (λ t. t.events) p.tallies ≡ length p.places

-- no event of this node may come
abbrev pub IsStuckAt : List Log → (ℕ → ℕ) → ℕ → Type 0
IsStuckAt logs at i = IsReady logs at i → ⊥

-- a beginning of an order that no event may come after
pub record IsLongest (logs : List Log) (p : OrderPrefix) : Type 0 where
  pub prefix : IsOrderPrefix logs p
  pub stuck : (i : ℕ) → i < length logs → IsStuckAt logs (occurrences p.places) i

-- some node has events left
abbrev pub IsShort : List Log → List ℕ → Type 0
IsShort logs places = (i : ℕ) × (i < length logs) × (occurrences places i < length (log_of logs i))

-- the list may have grown at its end
abbrev pub HasGrown : List ℕ → List ℕ → Type 0
HasGrown old new = (more : List ℕ) × (new ≡ old ++ more)
