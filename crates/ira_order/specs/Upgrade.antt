-- Laws of the upgrade: no version matters to how the events of logs are paired, ordered and cut. They are said of all
-- logs, whatever their versions and whether or not they are those of one ring.
use Rattle.std.specs.Prelude.{◌↔◌, ℕ, List, map}
use Rattle.ira_event.specs.Log.{Log}
use Rattle.ira_event.specs.Upgrade.{upgraded}
use Rattle.ira_order.specs.Matching.{Matches}
use Rattle.ira_order.specs.Before.{Before}
use Rattle.ira_order.specs.Order.{IsPair, IsOrder}
use Rattle.ira_order.specs.Cut.{IsCut, IsConsistentCut}

-- the pairs of upgraded logs are those of the old ones
abbrev pub UpgradesKeepPairs : Type 0
UpgradesKeepPairs = (logs : List Log) (i a b : ℕ) → IsPair (map upgraded logs) i a b ↔ IsPair logs i a b

-- they match where the old ones do
abbrev pub UpgradesKeepMatching : Type 0
UpgradesKeepMatching = (logs : List Log) → Matches (map upgraded logs) ↔ Matches logs

-- an event of theirs happened before another where it did in the old ones
abbrev pub UpgradesKeepBefore : Type 0
UpgradesKeepBefore = (logs : List Log) (i a j b : ℕ) → Before (map upgraded logs) i a j b ↔ Before logs i a j b

-- their orders are those of the old ones
abbrev pub UpgradesKeepOrders : Type 0
UpgradesKeepOrders = (logs : List Log) (order : List ℕ) → IsOrder (map upgraded logs) order ↔ IsOrder logs order

-- so are their cuts
abbrev pub UpgradesKeepCuts : Type 0
UpgradesKeepCuts = (logs : List Log) (cut : List ℕ) → IsCut (map upgraded logs) cut ↔ IsCut logs cut

-- and their consistent cuts
abbrev pub UpgradesKeepConsistentCuts : Type 0
UpgradesKeepConsistentCuts = (logs : List Log) (cut : List ℕ)
    → IsConsistentCut (map upgraded logs) cut ↔ IsConsistentCut logs cut
