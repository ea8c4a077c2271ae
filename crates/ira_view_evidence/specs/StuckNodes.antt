-- Helpers, no definitions: the nodes that are stuck, as they are listed.
use Rattle.std.specs.Prelude.{◌≡◌, ℕ, ◌+◌, List, Some, length, slice_get}
use Rattle.std.specs.List.{sum_by}
use Rattle.ira_event.specs.declared.event.Event.TheVariants.{Got}
use Rattle.ira_event.specs.declared.load.Load.{Load}
use Rattle.ira_event.specs.Log.{Log}
use Rattle.ira_order.specs.Order.{IsPair}
use Rattle.ira_order.specs.Ring.{log_of, prev}
use Rattle.ira_order.specs.declared.tally.Tally.{Tally}
use Rattle.ira_order.specs.OrderPrefix.{tally_at}
use Rattle.ira_view_evidence.specs.declared.stuck_at.StuckAt.{StuckAt}
use Rattle.ira_view_evidence.specs.CircleEvidence.{IsStuckAt}

-- the event of node j after n others is a receipt, and has a sending
pub record IsWaiting (logs : List Log) (j n : ℕ) : Type 0 where
  pub load : Load
  pub receives : slice_get (log_of logs j) n ≡ Some (Got load)
  pub sending : ℕ
  pub pair : IsPair logs (prev (length logs) j) sending (n + 1)

-- each node is stuck after the events that it has made, so many together
pub record AreStuckNodes (logs : List Log) (tallies : List Tally) (ordered : ℕ) (stuck : List StuckAt) : Type 0 where
  pub places : length stuck ≡ length logs
  pub total : ordered ≡ sum_by (λ t. t.events) tallies
  pub each : (j : ℕ) (s : StuckAt) → slice_get stuck j ≡ Some s → IsStuckAt logs j (tally_at tallies j).events s
