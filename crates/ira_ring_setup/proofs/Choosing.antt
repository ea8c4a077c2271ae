-- A node that has to draw receives nothing, nor does it lead; nor does a node that waits.
use Rattle.std.proofs.Common.{◌≡◌, ℕ, subst}
use Rattle.ira_event.specs.declared.event.Event.TheVariants.{Got}
use Rattle.ira_event.specs.declared.load.Load.{Load}
use Rattle.ira_node.specs.declared.phase.Phase.{Phase}
use Rattle.ira_node.specs.declared.phase.Phase.TheVariants.{Choosing, Active, Passive, Leader, Yielding}
use Rattle.ira_node.specs.declared.node_state.NodeState.{NodeState}
use Rattle.ira_node.specs.NodeState.{free, IsLeader, Receives}
use Rattle.ira_node.specs.NodeStep.{HasStep}
use Rattle.ira_node.specs.Wanted.{wanted_of, IsOfKind}
use Rattle.ira_node.proofs.Wants.{step_wanted}

pub choosing_no_receipt : (n term round : ℕ) (state : NodeState) (l : Load) → state ≡ free term (Choosing round)
    → HasStep n state (Got l) → ⊥
choosing_no_receipt n term round state l is h =
    let P : NodeState → Type 0 = λ x. IsOfKind (wanted_of x.term x.phase x.owed) (Got l) in
    subst P is (step_wanted n state (Got l) h.0 h.1)

pub choosing_no_waiting : (term round : ℕ) (state : NodeState) → state ≡ free term (Choosing round)
    → Receives state.phase → ⊥
choosing_no_waiting term round state is r = let P : NodeState → Type 0 = λ x. Receives x.phase in subst P is r

pub choosing_no_leader : (term round : ℕ) (state : NodeState) → state ≡ free term (Choosing round)
    → IsLeader state.phase → ⊥
choosing_no_leader term round state is l = let P : NodeState → Type 0 = λ x. IsLeader x.phase in subst P is l

pub leader_no_waiting : (p : Phase) → IsLeader p → Receives p → ⊥
leader_no_waiting (Leader round id) l r = r
leader_no_waiting (Choosing round) l r = l
leader_no_waiting (Active round id) l r = l
leader_no_waiting Passive l r = l
leader_no_waiting Yielding l r = l
