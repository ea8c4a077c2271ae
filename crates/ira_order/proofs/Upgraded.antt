-- Upgraded logs have the events of the old ones.
use Rattle.std.proofs.Common.{◌≡◌, ℕ, zero, suc, List, [], ◌∷◌, refl}
use Rattle.std.specs.Prelude.{map}
use Rattle.ira_event.specs.Log.{Log}
use Rattle.ira_event.specs.Upgrade.{upgraded}
use Rattle.ira_event.proofs.Upgrades.{upgraded_count}
use Rattle.ira_order.specs.Ring.{log_of}
use Rattle.ira_order.proofs.SameEvents.{HaveSameEvents}

upgraded_events : (logs : List Log) (i : ℕ) → log_of (map upgraded logs) i ≡ log_of logs i
upgraded_events [] i = refl
upgraded_events (log ∷ logs) zero = refl
upgraded_events (log ∷ logs) (suc i) = upgraded_events logs i

pub same_events : (logs : List Log) → HaveSameEvents (map upgraded logs) logs
same_events logs = record { count = upgraded_count logs; events = upgraded_events logs }
