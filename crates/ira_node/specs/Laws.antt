-- Laws of the node step, for rings, states and events of any numbers.
use Rattle.std.specs.Prelude.{◌≡◌, ℕ, ◌+◌, ◌≤◌, ◌⊎◌, Some, true}
use Rattle.ira_event.specs.Limits.{MAX_NUMBER}
use Rattle.ira_event.specs.declared.msg.Msg.{Msg}
use Rattle.ira_event.specs.declared.load.Load.{Load}
use Rattle.ira_event.specs.declared.load.Load.TheVariants.{Msg as Message}
use Rattle.ira_event.specs.declared.event.Event.{Event}
use Rattle.ira_event.specs.declared.event.Event.TheVariants.{Sent, Got}
use Rattle.ira_event.specs.Event.{is_load, is_event}
use Rattle.ira_event.specs.RingSize.{IsRingSize}
use Rattle.ira_node.specs.declared.node_state.NodeState.{NodeState}
use Rattle.ira_node.specs.declared.step_fault.StepFault.{StepFault}
use Rattle.ira_node.specs.NodeState.{is_state}
use Rattle.ira_node.specs.NodeStep.{NodeStep, HasStep}
use Rattle.ira_node.specs.NodeStepFault.{NodeStepFault}

-- an event leads to at most one next state
abbrev pub OneNextState : Type 0
OneNextState = (n : ℕ) (s : NodeState) (e : Event) (t u : NodeState) → NodeStep n s e t → NodeStep n s e u → t ≡ u

-- an event has at most one fault
abbrev pub OneFault : Type 0
OneFault = (n : ℕ) (s : NodeState) (e : Event) (f g : StepFault) → NodeStepFault n s e f → NodeStepFault n s e g → f ≡ g

-- no event has both a step and a fault
abbrev pub NoStepBesideAFault : Type 0
NoStepBesideAFault = (n : ℕ) (s : NodeState) (e : Event) (f : StepFault) → NodeStepFault n s e f → ¬ (HasStep n s e)

-- each event has a step or a fault
abbrev pub AStepOrAFault : Type 0
AStepOrAFault = (n : ℕ) (s : NodeState) (e : Event) → HasStep n s e ⊎ ((f : StepFault) × NodeStepFault n s e f)

-- the hop of a message that a receipt makes owed is the received one's, raised, within the limit
abbrev pub RaisedHopIsRecordable : Type 0
RaisedHopIsRecordable = (n : ℕ) (s : NodeState) (m k : Msg) (t : NodeState) → NodeStep n s (Got (Message m)) t
    → t.owed ≡ Some (Message k) → (k.hop ≡ m.hop + 1) × (k.hop ≤ MAX_NUMBER)

-- where a record may hold the numbers of the state and of the event, it may hold those of the next
-- state
abbrev pub NumbersStayRecordable : Type 0
NumbersStayRecordable = (n : ℕ) (s : NodeState) (e : Event) (t : NodeState) → IsRingSize n → is_state s ≡ true
    → is_event e ≡ true → NodeStep n s e t → is_state t ≡ true

-- where a record may hold the numbers of the state, it may hold those of what the node sends
abbrev pub SendingsAreRecordable : Type 0
SendingsAreRecordable = (n : ℕ) (s : NodeState) (l : Load) (t : NodeState) → is_state s ≡ true → NodeStep n s (Sent l) t
    → is_load l ≡ true
