-- A ring of n nodes, directed: link i leads from node i to the next one. And the logs of its nodes.
use Rattle.std.specs.Prelude.{ℕ, zero, suc, ◌+◌, ◌-◌, List, [], Option, Some, None, slice_get, nat_lt, if◌then◌else◌}
use Rattle.ira_event.specs.declared.event.Event.{Event}
use Rattle.ira_event.specs.Log.{Log}

-- the node that link i leads to
abbrev pub next : ℕ → ℕ → ℕ
next n i = if nat_lt (i + 1) n then i + 1 else 0

-- the node whose link leads to node i, and so that link
abbrev pub prev : ℕ → ℕ → ℕ
prev n zero = n - 1
prev n (suc i) = i

-- the events of a log, and none where there is no log
abbrev pub events_of : Option Log → List Event
events_of (Some log) = log.events
events_of None = []

-- the events of node i
abbrev pub log_of : List Log → ℕ → List Event
log_of logs i = events_of (slice_get logs i)

-- member k of a list, counted from 1
abbrev pub numbered : {X : Type 0} → List X → ℕ → Option X
numbered {X} xs zero = None
numbered {X} xs (suc k) = slice_get xs k
