-- Full runs of a setup agree with one another, and with what the nodes of its ring recorded.
use Rattle.std.specs.Prelude.{◌≡◌, ℕ, ◌<◌, List, map}
use Rattle.ira_event.specs.Log.{Log}
use Rattle.ira_order.specs.Ring.{log_of}
use Rattle.ira_order.specs.Circle.{HasOrder}
use Rattle.ira_order.specs.RunsOfLogs.{EveryOrderIsRun}
use Rattle.ira_ring_setup.specs.declared.node_end.NodeEnd.{NodeEnd}
use Rattle.ira_ring_setup.specs.declared.node_end.NodeEnd.TheVariants.{Leader, Stopped, DrawsSpent, LogFull, NoStep, Quiet}
use Rattle.ira_ring_setup.specs.Setup.{Setup, KeepsRules}
use Rattle.ira_ring_setup.specs.FullRun.{BeginsWith, AreFullLogs}
use Rattle.ira_ring_setup.specs.Run.{Run}
use Rattle.ira_ring_setup.specs.ShownEnd.{IsShown, IsLoneRun}
use Rattle.ira_ring_setup.specs.Recording.{IsRecording, HasOwnEnd}

-- each full run of the setup has these logs
abbrev pub AreOfEachFullRun : Setup → List Log → Type 0
AreOfEachFullRun s logs = (full : List Log) → AreFullLogs s full → full ≡ logs

-- all full runs of a setup have the same logs
abbrev pub FullRunsHaveTheSameLogs : Type 0
FullRunsHaveTheSameLogs = (s : Setup) (logs : List Log) → AreFullLogs s logs → AreOfEachFullRun s logs

-- the logs of each full run show an end of each node, which is not Stopped
abbrev pub FullRunsShowEnds : Type 0
FullRunsShowEnds = (s : Setup) (logs : List Log) → AreFullLogs s logs → (ends : List NodeEnd)
    × IsLoneRun s (record { logs = logs; ends = ends })

-- the end, with Stopped for Quiet: a node that waits alone waits on, one in a thread is told that nothing comes
abbrev pub stopped_for_quiet : NodeEnd → NodeEnd
stopped_for_quiet Leader = Leader
stopped_for_quiet Stopped = Stopped
stopped_for_quiet DrawsSpent = DrawsSpent
stopped_for_quiet LogFull = LogFull
stopped_for_quiet (NoStep l) = NoStep l
stopped_for_quiet Quiet = Stopped

-- logs show one end of a node, with Stopped for Quiet
abbrev pub LogsShowOneEnd : Type 0
LogsShowOneEnd = (s : Setup) (logs : List Log) (i : ℕ) (end other : NodeEnd) → IsShown s logs i end
    → IsShown s logs i other → stopped_for_quiet end ≡ stopped_for_quiet other

-- what the nodes of a setup's ring recorded agrees with the full runs of the setup
pub record Agrees (s : Setup) (run : Run) : Type 0 where
  -- each log begins with that node's log by any full run
  pub begins : (full : List Log) → AreFullLogs s full → (i : ℕ) → i < s.nodes
      → BeginsWith (log_of run.logs i) (log_of full i)
  -- the logs are those of any full run, and the ends are its ends with Stopped for Quiet
  pub same : (lone : Run) → IsLoneRun s lone → (run.logs ≡ lone.logs) × (run.ends ≡ map stopped_for_quiet lone.ends)
  -- the logs have an order, and every order of them is a run of the ring
  pub ordered : HasOrder run.logs × EveryOrderIsRun run.logs
  -- some node ended by itself
  pub own_end : HasOwnEnd run

-- whatever nodes record, each of them for itself, agrees with the full runs of their setup, where that keeps the rules
abbrev pub RecordingsAgree : Type 0
RecordingsAgree = (s : Setup) (run : Run) → KeepsRules s → IsRecording s run → Agrees s run
