-- The terms of a run: in each its nodes elect a leader, who yields if it isn't the last.
use Rattle.std.specs.Prelude.{◌≡◌, ℕ, ◌<◌, ◌≤◌, List, [], ◌∷◌, ⊤, ◌||◌, if◌then◌else◌, nat_lt}
use Rattle.ira_event.specs.Limits.{MAX_VERSION_1_NODES}
use Rattle.ira_event.specs.declared.event.Event.{Event}
use Rattle.ira_event.specs.declared.event.Event.TheVariants.{Yield}
use Rattle.ira_node.specs.declared.node_state.NodeState.{NodeState}
use Rattle.ira_node.specs.NodeState.{IsLeader}
use Rattle.ira_node.specs.NodeStep.{NodeStep}

-- the version of the logs of a run of so many terms in a ring of n nodes
abbrev pub version_of : ℕ → ℕ → ℕ
version_of n terms = if nat_lt 1 terms || nat_lt MAX_VERSION_1_NODES n then 2 else 1

-- a node in this state leads, in the last of so many terms or in a later one
abbrev pub IsLastLeader : ℕ → NodeState → Type 0
IsLastLeader terms state = IsLeader state.phase × (terms ≤ state.term)

-- each yield among these events, made from this state on in a ring of n nodes, is in a term before the last of
-- so many; nothing is said of those after an event that is no step
abbrev pub YieldsBelow : ℕ → ℕ → NodeState → List Event → Type 0
YieldsBelow terms n s [] = ⊤
YieldsBelow terms n s (e ∷ es) = (e ≡ Yield → s.term < terms)
    × ((u : NodeState) → NodeStep n s e u → YieldsBelow terms n u es)
