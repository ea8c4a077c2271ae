-- Helpers, no definitions: a log that is replayed while it is read.
use Rattle.std.specs.Prelude.{◌≡◌, ◌⊎◌, ℕ, Bool, List, Option, MatchOption}
use Rattle.ira_event.specs.declared.event.Event.{Event}
use Rattle.ira_event.specs.Log.{Log}
use Rattle.ira_event.specs.Records.{RecordsLeft, HasRead}
use Rattle.ira_node.specs.NodeState.{first_state}
use Rattle.ira_replay.specs.declared.replay_fault.ReplayFault.{ReplayFault}
use Rattle.ira_replay.specs.LocalRun.{LeadsTo, StopsAt, IsLocalRun, IsFirstFault}
use Rattle.ira_audit.specs.declared.reason.Reason.TheVariants as reason
use Rattle.ira_audit.specs.declared.answer.Answer.TheVariants.{Yes, No}
use Rattle.ira_audit.specs.declared.answer.Answer.{Answer}
use Rattle.ira_node.specs.declared.node_state.NodeState.{NodeState}

-- the answer of a log
abbrev pub IsLogAnswer : Log → Answer → Type 0
IsLogAnswer log a =
    ((a ≡ Yes) × IsLocalRun log)
    ⊎ ((f : ReplayFault) × (a ≡ No (reason.Replay log.place f.position f.fault)) × IsFirstFault log f)

-- all events lead on from the first state to this one, or this is the first event without a step, and its fault
abbrev pub LeadsOrStops : ℕ → NodeState → List Event → NodeState → Option ReplayFault → Type 0
LeadsOrStops nodes first events state first_fault =
    MatchOption first_fault (LeadsTo nodes first events state) (StopsAt nodes first events)

-- all events lead on from the first state, or this is the first event without a step, and its fault
abbrev pub ReplayGives : ℕ → Bool → List Event → Option ReplayFault → Type 0
ReplayGives nodes initiator events first_fault = (t : NodeState)
    × LeadsOrStops nodes (first_state initiator) events t first_fault

-- these events were read of a text of this version, this is left of it, and they lead from the first state to this one or
-- stop at this fault
pub record HasKept (version : ℕ) (text : List ℕ) (nodes : ℕ) (first : NodeState) (left : RecordsLeft)
    (events : List Event) (state : NodeState) (first_fault : Option ReplayFault) : Type 0 where
  pub read : HasRead text events left
  pub same : left.version ≡ version
  pub replay : LeadsOrStops nodes first events state first_fault
