-- The positions of the states that pass a test.
use Rattle.std.specs.Prelude.{ℕ, Bool, List, map, filter}
use Rattle.ira_node.specs.declared.node_state.NodeState.{NodeState}

-- the positions, in their order, of the states that pass the test
abbrev pub positions_passing : (NodeState → Bool) → List (ℕ × NodeState) → List ℕ
positions_passing test states = map (λ x. x.0) (filter (λ x. test x.1) states)
