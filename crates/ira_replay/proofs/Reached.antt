-- The list of states is one, and its members are what the events lead to.
use Rattle.std.proofs.Common.{◌≡◌, ℕ, zero, suc, ◌≤◌, inl, inr, ◌↔◌, List, [], ◌∷◌, length, take, Some, None, Ok, refl}
use Rattle.std.proofs.Common.{sym, ◌∙◌, ap, subst, arith}
use Rattle.std.specs.List.{slice_get}
use Rattle.ira_event.specs.declared.event.Event.{Event}
use Rattle.ira_node.specs.declared.node_state.NodeState.{NodeState}
use Rattle.ira_node.specs.NodeStep.{NodeStep}
use Rattle.ira_node.specs.StepAnswer.{answer}
use Rattle.ira_node.proofs.Answers.{step_gives}
use Rattle.ira_replay.specs.LocalRun.{LeadsTo}
use Rattle.ira_replay.specs.StatesOfLog.{AreStates}

pub same_next : (n : ℕ) (s : NodeState) (e : Event) (t u : NodeState) → NodeStep n s e t → NodeStep n s e u → t ≡ u
same_next n s e t u h k =
    let a : answer n s e ≡ Ok t = step_gives n s e t h in
    let b : answer n s e ≡ Ok u = step_gives n s e u k in
    cc

pub one_list : (n : ℕ) (s : NodeState) (es : List Event) (ts us : List NodeState) → AreStates n s es ts
    → AreStates n s es us → ts ≡ us
one_list n s [] ts us h k = h ∙ sym k
one_list n s (e ∷ es) ts us (inl h) (inl k) = h.1 ∙ sym k.1
one_list n s (e ∷ es) ts us (inl h) (inr k) = absurd (h.0 (k.0, k.2))
one_list n s (e ∷ es) ts us (inr h) (inl k) = absurd (k.0 (h.0, h.2))
one_list n s (e ∷ es) ts us (inr h) (inr k) =
    let F : NodeState → Type 0 = λ x. AreStates n x es k.1 in
    h.4 ∙ ap (λ xs. s ∷ xs) (one_list n h.0 es h.1 k.1 h.3 (subst F (same_next n s e k.0 h.0 k.2 h.2) k.3)) ∙ sym k.4

reached : (n : ℕ) (s : NodeState) (es : List Event) (ts : List NodeState) → AreStates n s es ts
    → (a : ℕ) (t : NodeState) → slice_get ts a ≡ Some t → (a ≤ length es) × LeadsTo n s (take a es) t
reached n s [] ts h zero t g = (omega arith, (let k : Some s ≡ Some t = rw h at g in cc))
reached n s [] ts h (suc a) t g = (let k : None ≡ Some t = rw h at g in cc)
reached n s (e ∷ es) ts (inl h) zero t g = (omega arith, (let k : Some s ≡ Some t = rw h.1 at g in cc))
reached n s (e ∷ es) ts (inl h) (suc a) t g = (let k : None ≡ Some t = rw h.1 at g in cc)
reached n s (e ∷ es) ts (inr h) zero t g = (omega arith, (let k : Some s ≡ Some t = rw h.4 at g in cc))
reached n s (e ∷ es) ts (inr h) (suc a) t g =
    let k : slice_get h.1 a ≡ Some t = rw h.4 at g in
    let r : (a ≤ length es) × LeadsTo n h.0 (take a es) t = reached n h.0 es h.1 h.3 a t k in
    (omega arith, (h.0, h.2, r.1))

found : (n : ℕ) (s : NodeState) (es : List Event) (ts : List NodeState) → AreStates n s es ts → (a : ℕ) (t : NodeState)
    → a ≤ length es → LeadsTo n s (take a es) t → slice_get ts a ≡ Some t
found n s [] ts h zero t low leads = rw (h, leads) refl
found n s [] ts h (suc a) t low leads = absurd (omega arith)
found n s (e ∷ es) ts (inl h) zero t low leads = rw (h.1, leads) refl
found n s (e ∷ es) ts (inl h) (suc a) t low leads = absurd (h.0 (leads.0, leads.1))
found n s (e ∷ es) ts (inr h) zero t low leads = rw (h.4, leads) refl
found n s (e ∷ es) ts (inr h) (suc a) t low leads =
    let F : NodeState → Type 0 = λ x. LeadsTo n x (take a es) t in
    rw h.4 (found n h.0 es h.1 h.3 a t (omega arith) (subst F (same_next n s e leads.0 h.0 leads.1 h.2) leads.2))

pub states_are_reached : (n : ℕ) (s : NodeState) (es : List Event) (ts : List NodeState) → AreStates n s es ts
    → (a : ℕ) (t : NodeState) → (slice_get ts a ≡ Some t) ↔ ((a ≤ length es) × LeadsTo n s (take a es) t)
states_are_reached n s es ts h a t = (λ g. reached n s es ts h a t g, λ k. found n s es ts h a t k.0 k.1)
