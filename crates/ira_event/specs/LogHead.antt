-- Heads of log texts, and when their numbers are in range.
use Rattle.std.specs.Prelude.{◌<◌}
use Rattle.ira_event.specs.declared.log_head.HeadLines.{HeadLines}
use Rattle.ira_event.specs.RingSize.{IsRingSize, FitsVersion}
use Rattle.ira_event.specs.Version.{IsVersion}

-- there are such a version and such a ring, of which logs of that version may be, and it has the place
abbrev pub AreInRange : HeadLines → Type 0
AreInRange lines =
    IsVersion lines.version × IsRingSize lines.nodes × FitsVersion lines.version lines.nodes
    × (lines.place < lines.nodes)
