-- A count that was looked up.
use Rattle.std.specs.Prelude.{⊤, List, Option, Some, None}
use Rattle.ira_event.specs.Log.{Log}
use Rattle.ira_order.specs.VectorClock.{IsCount}
use Rattle.ira_cert.specs.declared.last_count.LastCount.{LastCount}

-- it is that of these logs, if there is one
abbrev pub IsKnown : List Log → Option LastCount → Type 0
IsKnown logs None = ⊤
IsKnown logs (Some last) = IsCount logs last.other last.other_pos last.node last.count
