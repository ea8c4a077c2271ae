-- Cuts (Mattern, Virtual Time and Global States of Distributed Systems, 1989).
use Rattle.std.specs.Prelude.{◌≡◌, ℕ, ◌<◌, ◌≤◌, max, min, List, length, slice_index}
use Rattle.ira_event.specs.Log.{Log}
use Rattle.ira_order.specs.Ring.{log_of}
use Rattle.ira_order.specs.Before.{Before}

-- one position for each node, at most the length of its log
pub record IsCut (logs : List Log) (cut : List ℕ) : Type 0 where
  pub places : length cut ≡ length logs
  pub within : (i : ℕ) → i < length logs → slice_index cut i ≤ length (log_of logs i)

-- where (at i) events of each node i are held: with each event held, every event that happened before
-- it is held
abbrev pub HoldsAllBefore : List Log → (ℕ → ℕ) → Type 0
HoldsAllBefore logs at = (i a j b : ℕ) → Before logs i a j b → b ≤ at j → a ≤ at i

-- a consistent cut
abbrev pub IsConsistentCut : List Log → List ℕ → Type 0
IsConsistentCut logs cut = IsCut logs cut × HoldsAllBefore logs (slice_index cut)

-- a list of one position for each node, each the greater of those that two cuts have there: their join
pub record IsJoin (logs : List Log) (a b cut : List ℕ) : Type 0 where
  pub places : length cut ≡ length logs
  pub greater : (i : ℕ) → i < length logs → slice_index cut i ≡ max (slice_index a i) (slice_index b i)

-- the same with the lesser: their meet
pub record IsMeet (logs : List Log) (a b cut : List ℕ) : Type 0 where
  pub places : length cut ≡ length logs
  pub lesser : (i : ℕ) → i < length logs → slice_index cut i ≡ min (slice_index a i) (slice_index b i)
