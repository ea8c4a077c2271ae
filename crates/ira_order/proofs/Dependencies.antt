-- The direct dependencies of a ring's logs, gathered node by node.
use Rattle.std.proofs.Common.{◌≡◌, ℕ, ◌+◌, inl, inr, List, [], ◌∷◌, ◌++◌, length, subst, arith, Some}
use Rattle.std.specs.Prelude.{slice_get}
use Rattle.std.proofs.lemmas.List.{length_push}
use Rattle.ira_event.specs.Log.{Log}
use Rattle.ira_order.specs.Ring.{log_of}
use Rattle.ira_order.specs.DirectDependencies.{NodeDependencies, AreDependencies}
use Rattle.ira_order.proofs.Pushed.{found_in_push}

-- those of the first n nodes
pub record AreFirst (logs : List Log) (n : ℕ) (nodes : List NodeDependencies) : Type 0 where
  pub many : length nodes ≡ n
  pub each : (j : ℕ) (node : NodeDependencies) → slice_get nodes j ≡ Some node → AreDependencies (log_of logs j) node

pub one_node_more : (logs : List Log) (n : ℕ) (nodes : List NodeDependencies) (node : NodeDependencies)
    → AreFirst logs n nodes → AreDependencies (log_of logs n) node → AreFirst logs (n + 1) (nodes ++ node ∷ [])
one_node_more logs n nodes node are its = record {
  many = omega (arith, length_push nodes node, are.many);
  each = λ j other at. elim (found_in_push nodes node j other at) [
    | inl old ↦ are.each j other old
    | inr new ↦
        let here : n ≡ j = omega (arith, new.0, are.many) in
        subst (AreDependencies (log_of logs j)) new.1 (subst (λ (x : ℕ). AreDependencies (log_of logs x) node) here its)
  ];
}
