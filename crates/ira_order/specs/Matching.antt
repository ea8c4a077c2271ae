-- Links are first in, first out: the k-th receipt of a link takes the k-th sending (Itai and Rodeh,
-- Symmetry breaking in distributed networks, Information and Computation 88, 1990).
use Rattle.std.specs.Prelude.{◌≡◌, ℕ, ◌<◌, List, Some, length}
use Rattle.ira_event.specs.declared.load.Load.{Load}
use Rattle.ira_event.specs.declared.event.Event.{Event}
use Rattle.ira_event.specs.Log.{Log}
pub use Rattle.ira_event.specs.Messages.{sending, receipt, sent, got}
use Rattle.ira_order.specs.Ring.{next, log_of, numbered}

-- where the reader's log has a k-th receipt, the writer's has a k-th sending, of the same load
abbrev pub IsPaired : List Event → List Event → ℕ → Type 0
IsPaired writer reader k = (m : Load) → numbered (got reader) k ≡ Some m → numbered (sent writer) k ≡ Some m

-- each receipt of a link has a paired sending
abbrev pub LinkMatches : List Log → ℕ → Type 0
LinkMatches logs i = (k : ℕ) → IsPaired (log_of logs i) (log_of logs (next (length logs) i)) k

-- each receipt of each link has a paired sending
abbrev pub Matches : List Log → Type 0
Matches logs = (i : ℕ) → i < length logs → LinkMatches logs i
