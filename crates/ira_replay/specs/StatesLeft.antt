-- Helpers, no definitions: what the iterator still gives and what a replay answers, as functions by
-- cases, to which proofs tie the code. That they agree with StatesOfLog and LocalRun is proved.
use Rattle.std.specs.Prelude.{ℕ, ◌+◌, Bool, true, false, List, [], ◌∷◌, Option, Some, None, Result, Ok, Err}
use Rattle.ira_event.specs.declared.event.Event.{Event}
use Rattle.ira_node.specs.declared.node_state.NodeState.{NodeState}
use Rattle.ira_node.specs.declared.step_fault.StepFault.{StepFault}
use Rattle.ira_node.specs.StepAnswer.{answer}
use Rattle.ira_replay.specs.declared.replay_fault.ReplayFault.{ReplayFault}

-- the state after the event, one position on, where there is a step
abbrev pub advanced : ℕ → Result NodeState StepFault → Option (ℕ × NodeState)
advanced p (Ok t) = Some (p + 1, t)
advanced p (Err f) = None

-- the state that comes next, with its position, unless they have ended
abbrev pub unless_ended : Bool → ℕ → NodeState → Option (ℕ × NodeState)
unless_ended true p s = None
unless_ended false p s = Some (p, s)

-- the states from the next one on, where there is one, along the events after it
abbrev pub states_left : ℕ → Option (ℕ × NodeState) → List Event → List (ℕ × NodeState)
states_left n None es = []
states_left n (Some x) [] = x ∷ []
states_left n (Some x) (e ∷ es) = x ∷ states_left n (advanced x.0 (answer n x.1 e)) es

-- the answer of a step as that of a replay that has come to this position
abbrev pub placed : ℕ → Result NodeState StepFault → Result NodeState ReplayFault
placed p (Ok t) = Ok t
placed p (Err f) = Err (record { position = p; fault = f })

-- the answer of a replay that has come to this position with this answer, and goes on along the events
abbrev pub replayed : ℕ → ℕ → Result NodeState ReplayFault → List Event → Result NodeState ReplayFault
replayed n p (Err f) es = Err f
replayed n p (Ok s) [] = Ok s
replayed n p (Ok s) (e ∷ es) = replayed n (p + 1) (placed (p + 1) (answer n s e)) es
