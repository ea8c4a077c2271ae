-- How many nodes a ring has, and how many events its logs have.
use Rattle.std.specs.Prelude.{List, length}
use Rattle.std.specs.List.{sum_by}
use Rattle.ira_event.specs.Log.{Log}
use Rattle.ira_view_page.specs.declared.ring_counts.RingCounts.{RingCounts}

-- those of these logs
abbrev pub counts : List Log → RingCounts
counts logs = record { nodes = length logs; events = sum_by (λ log. length log.events) logs }
