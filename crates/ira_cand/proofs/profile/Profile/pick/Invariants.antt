use Rattle.std.proofs.Common.{◌≡◌, ℕ, ◌+◌, List, ◌++◌, replicate}
use Rattle.ira_node.specs.declared.node_state.NodeState.{NodeState}
use Rattle.ira_pred.specs.Formula.{Formula}
use Rattle.ira_cand.specs.declared.stage.Stage.{Stage}
use Rattle.ira_cand.specs.Profile.{TableAt, answers_in}
use Rattle.ira_cand.proofs.profile.Profile.pick.Given as goal

abbrev pub invariant-loop-p : goal.invariant-loop-p
invariant-loop-p g l = (last : NodeState) (f : Formula) (at : Stage) (n : ℕ) (rest : List Stage) → l.fn.begin + n ≡ l.end
    → l.fn.answers ≡ answers_in f at → TableAt l.self last f (replicate n at ++ rest) l.fn.begin l.fn.found.items
    → (m : ℕ) × (l.p + m ≡ l.end) × TableAt l.self last f (replicate m at ++ rest) l.p l.found.items
