-- The log of a node while it grows.
use Rattle.std.specs.Prelude.{◌≡◌, ℕ, ◌≤◌, true, false, length}
use Rattle.ira_event.specs.Limits.{MAX_RECORDS}
use Rattle.ira_event.specs.declared.event.Event.{Event}
use Rattle.ira_event.specs.Event.{is_of_version}
use Rattle.ira_event.specs.Log.{Log, IsLog}
use Rattle.ira_event.specs.LogText.{head_of}
use Rattle.ira_node.specs.declared.node_state.NodeState.{NodeState}
use Rattle.ira_node.specs.NodeState.{first_state, is_state}
use Rattle.ira_node.specs.NodeStep.{HasStep}
use Rattle.ira_replay.specs.LocalRun.{LeadsTo}
use Rattle.ira_ring_threads.specs.declared.record_fault.RecordFault.{RecordFault}
use Rattle.ira_ring_threads.specs.declared.record_fault.RecordFault.TheVariants.{NoStep, OtherVersion}

-- the log so far, the most events that it may have, and the state that its events led to
pub record Recorder : Type 0 where
  pub log : Log
  pub cap : ℕ
  pub state : NodeState

-- both logs are of one node, and of one version
abbrev pub AreOfOneNode : Log → Log → Type 0
AreOfOneNode a b = head_of a ≡ head_of b

-- the log is one, has at most so many events, and they lead to the state
pub record IsRecorder (recorder : Recorder) : Type 0 where
  pub log : IsLog recorder.log
  pub most : recorder.cap ≤ MAX_RECORDS
  pub count : length recorder.log.events ≤ recorder.cap
  pub leads : LeadsTo recorder.log.nodes (first_state recorder.log.initiator) recorder.log.events recorder.state
  pub numbers : is_state recorder.state ≡ true

-- why a recorder doesn't add an event: it has no step, or it has one and isn't of the log's version
abbrev pub RecordFaultOf : Recorder → Event → RecordFault → Type 0
RecordFaultOf recorder e NoStep = ¬ (HasStep recorder.log.nodes recorder.state e)
RecordFaultOf recorder e OtherVersion = HasStep recorder.log.nodes recorder.state e
    × (is_of_version recorder.log.version e ≡ false)
