-- Local runs: logs all of whose events have steps.
use Rattle.std.specs.Prelude.{◌≡◌, ℕ, ◌+◌, List, [], ◌∷◌, ◌++◌, length}
use Rattle.ira_event.specs.declared.event.Event.{Event}
use Rattle.ira_event.specs.Log.{Log}
use Rattle.ira_node.specs.declared.node_state.NodeState.{NodeState}
use Rattle.ira_node.specs.NodeState.{first_state}
use Rattle.ira_node.specs.NodeStep.{NodeStep}
use Rattle.ira_node.specs.NodeStepFault.{NodeStepFault}
use Rattle.ira_replay.specs.declared.replay_fault.ReplayFault.{ReplayFault}

-- in a ring of n nodes the events lead a node from state s to state t, each by a node step
abbrev pub LeadsTo : ℕ → NodeState → List Event → NodeState → Type 0
LeadsTo n s [] t = t ≡ s
LeadsTo n s (e ∷ es) t = (u : NodeState) × NodeStep n s e u × LeadsTo n u es t

-- the events before the one that the fault names, counted from 1, lead on from s, and that one then
-- has the fault
pub record StopsAt (n : ℕ) (s : NodeState) (es : List Event) (f : ReplayFault) : Type 0 where
  pub before : List Event
  pub event : Event
  pub after : List Event
  pub state : NodeState
  pub parts : es ≡ before ++ event ∷ after
  pub leads : LeadsTo n s before state
  pub position : f.position ≡ length before + 1
  pub fault : NodeStepFault n state event f.fault

-- all events of the log have steps
abbrev pub IsLocalRun : Log → Type 0
IsLocalRun log = (t : NodeState) × LeadsTo log.nodes (first_state log.initiator) log.events t

-- the log's first event without a step, and why it has none
abbrev pub IsFirstFault : Log → ReplayFault → Type 0
IsFirstFault log f = StopsAt log.nodes (first_state log.initiator) log.events f
