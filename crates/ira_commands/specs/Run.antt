-- What comes of running a ring.
use Rattle.std.specs.Prelude.{◌≡◌, ◌≢◌, ◌↔◌, Bool, Err, Ok, Result, false, true}
use Rattle.ira_event.specs.RingSize.{IsRingSize}
use Rattle.ira_ring.specs.SeededRing.{setup_of}
use Rattle.ira_ring_setup.specs.Agreement.{Agrees}
use Rattle.ira_ring_setup.specs.EndsWriter.{ends_text}
use Rattle.ira_ring_setup.specs.Recording.{HasOwnEnd, IsRecording}
use Rattle.ira_ring_setup.specs.Run.{Run}
use Rattle.ira_ring_setup.specs.Setup.{KeepsRules, Setup}
use Rattle.ira_ring_setup.specs.ShownEnd.{IsLoneRun}
use Rattle.ira_ring_setup.specs.declared.run_fault.RunFault.{RunFault}
use Rattle.ira_ring_setup.specs.declared.run_fault.RunFault.TheVariants as fault
use Rattle.ira_commands.specs.AskedRun.{ring_of}
use Rattle.ira_commands.specs.Reply.{Reply, printed, refused, with_files}
use Rattle.ira_commands.specs.Reply.MadeFiles.{logs_of}
use Rattle.ira_commands.specs.declared.command_fault.CommandFault.TheVariants.{RingSize, RunRefused}
use Rattle.ira_view.specs.Status.{IsElectionStatus}
use Rattle.ira_commands.specs.declared.asked_run.AskedRun.{AskedRun}
use Rattle.ira_view.specs.declared.status.Status.{Status}

-- each log is a file, the ends of the run are printed, and the status says whether a node leads
abbrev pub TellsRun : Run → Reply → Type 0
TellsRun run reply = (status : Status) × IsElectionStatus run.ends status
    × (reply ≡ with_files (printed status (ends_text run)) (logs_of run.logs))

-- what came of a run is told: the run, or why there is none, which is refused
abbrev pub TellsRunResult : Result Run RunFault → Reply → Type 0
TellsRunResult (Ok run) reply = TellsRun run reply
TellsRunResult (Err fault.OutOfMemory) reply = ⊥
TellsRunResult (Err f) reply = reply ≡ refused (RunRefused f)

-- a run of a setup, on one thread or with a thread for each node, whose logs then are those of each full run
abbrev pub IsRunOf : Bool → Setup → Run → Type 0
IsRunOf true s run = IsLoneRun s run
IsRunOf false s run = IsRecording s run × Agrees s run × HasOwnEnd run

-- why there is no run of a setup
pub record IsRunFault (is_alone : Bool) (s : Setup) (f : RunFault) : Type 0 where
  -- it says that the setup breaks the rules just where it does
  pub broken : (f ≡ fault.Setup) ↔ ¬ (KeepsRules s)
  -- on one thread it says that
  pub alone : is_alone ≡ true → f ≡ fault.Setup
  -- and never that the collector refuses a part, that no node ended by itself, or that memory ran out, which is no refusal
  pub parts : (f ≢ fault.Stranger) × (f ≢ fault.Double)
  pub ends : f ≢ fault.NoEnd
  pub memory : f ≢ fault.OutOfMemory

-- a run of the ring is told, which keeps the rules; or why there is none, or that no ring has so many nodes, and that is
-- refused
pub data RunsRing (is_alone : Bool) (asked : AskedRun) (reply : Reply) : Type 0 where
  ran : IsRingSize asked.nodes → KeepsRules (setup_of (ring_of asked)) → (run : Run)
      → IsRunOf is_alone (setup_of (ring_of asked)) run → TellsRun run reply → RunsRing is_alone asked reply
  failed : IsRingSize asked.nodes → (f : RunFault) → IsRunFault is_alone (setup_of (ring_of asked)) f
      → reply ≡ refused (RunRefused f) → RunsRing is_alone asked reply
  no_ring : ¬ (IsRingSize asked.nodes) → reply ≡ refused RingSize → RunsRing is_alone asked reply
