-- The states that lead to an event without a step.
use Rattle.std.specs.Prelude.{◌≡◌, ℕ, ◌+◌, ◌-◌, List, Some, drop, length}
use Rattle.ira_event.specs.declared.event.Event.{Event}
use Rattle.ira_event.specs.Log.{Log}
use Rattle.ira_node.specs.declared.node_state.NodeState.{NodeState}
use Rattle.ira_node.specs.NodeStepFault.{NodeStepFault}
use Rattle.ira_order.specs.Ring.{numbered}
use Rattle.ira_replay.specs.declared.replay_fault.ReplayFault.{ReplayFault}
use Rattle.ira_replay.specs.LocalRun.{IsFirstFault}
use Rattle.ira_replay.specs.StatesOfLog.{AreStatesOfLog}

-- the log's first event without a step, and the last five states up to it, or all where there are fewer, from the one
-- after the first so many events on; in the last of them the event has its fault
pub record IsNodeEvidence (log : Log) (fault : ReplayFault) (first : ℕ) (states : List NodeState) : Type 0 where
  pub faulty : IsFirstFault log fault
  pub first_is : first ≡ fault.position - 5
  pub all : List NodeState
  pub are : AreStatesOfLog log all
  pub last_ones : states ≡ drop first all
  pub number : first + length states ≡ fault.position
  pub event : Event
  pub event_is : numbered log.events fault.position ≡ Some event
  pub last : NodeState
  pub last_is : numbered states (length states) ≡ Some last
  pub no_step : NodeStepFault log.nodes last event fault.fault
