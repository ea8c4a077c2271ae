-- How many nodes and events an explanation says that there are.
use Rattle.std.specs.Prelude.{Option, None, Some}
use Rattle.ira_audit.specs.declared.judged.Judged.{Judged}
use Rattle.ira_audit.specs.declared.judged.Judged.TheVariants.{Good, Refused, NoRing}
use Rattle.ira_view_page.specs.Counts.{counts}
use Rattle.ira_view_page.specs.declared.ring_counts.RingCounts.{RingCounts}

-- those of what was judged, where that is the logs of a ring
abbrev pub ring_of : {A : Type 0} → Judged A → Option RingCounts
ring_of (Good logs) = Some (counts logs)
ring_of (Refused refused) = Some (counts refused.logs)
ring_of (NoRing reason) = None
