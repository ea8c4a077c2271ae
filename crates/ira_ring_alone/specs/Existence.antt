-- There are full runs.
use Rattle.std.specs.Prelude.{List}
use Rattle.ira_event.specs.Log.{Log}
use Rattle.ira_ring_setup.specs.Setup.{Setup, KeepsRules}
use Rattle.ira_ring_setup.specs.FullRun.{AreFullLogs}

-- a setup that keeps the rules has a full run
abbrev pub SetupsHaveFullRuns : Type 0
SetupsHaveFullRuns = (s : Setup) → KeepsRules s → (logs : List Log) × AreFullLogs s logs
