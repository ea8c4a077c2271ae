-- The states of a log.
use Rattle.std.specs.Prelude.{◌≡◌, ℕ, ◌⊎◌, List, [], ◌∷◌}
use Rattle.std.specs.List.{enumerate_from}
use Rattle.ira_event.specs.declared.event.Event.{Event}
use Rattle.ira_event.specs.Log.{Log}
use Rattle.ira_node.specs.declared.node_state.NodeState.{NodeState}
use Rattle.ira_node.specs.NodeState.{first_state}
use Rattle.ira_node.specs.NodeStep.{NodeStep, HasStep}

-- in a ring of n nodes these are the states along the events from state s: it is the first, and each
-- later one is led to by a node step with the next event, as far as there is a step
abbrev pub AreStates : ℕ → NodeState → List Event → List NodeState → Type 0
AreStates n s [] ts = ts ≡ s ∷ []
AreStates n s (e ∷ es) ts =
    (¬ (HasStep n s e) × (ts ≡ s ∷ []))
    ⊎ ((u : NodeState) × (us : List NodeState) × NodeStep n s e u × AreStates n u es us × (ts ≡ s ∷ us))

-- these are those states, each with its position, counted from 0
abbrev pub ArePlacedStates : ℕ → NodeState → List Event → List (ℕ × NodeState) → Type 0
ArePlacedStates n s es xs = (ts : List NodeState) × AreStates n s es ts × (xs ≡ enumerate_from 0 ts)

-- these are the states of the log, from the first state of its start kind
abbrev pub AreStatesOfLog : Log → List NodeState → Type 0
AreStatesOfLog log ts = AreStates log.nodes (first_state log.initiator) log.events ts
