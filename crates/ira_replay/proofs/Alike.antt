-- What a node did fixes its state, and so the kind of its next event.
use Rattle.std.proofs.Common.{◌≡◌, ℕ, zero, suc, Bool, List, [], ◌∷◌, ◌++◌, take, Some, refl, sym, ◌∙◌, subst}
use Rattle.std.specs.Prelude.{slice_get}
use Rattle.ira_event.specs.declared.event.Event.{Event}
use Rattle.ira_event.specs.declared.event.Event.TheVariants.{Draw, Sent, Got, Yield}
use Rattle.ira_event.specs.Log.{Log}
use Rattle.ira_node.specs.declared.node_state.NodeState.{NodeState}
use Rattle.ira_node.specs.declared.wanted.Wanted.{Wanted}
use Rattle.ira_node.specs.declared.wanted.Wanted.TheVariants.{Draw as WantsDraw, Send, Receipt, Yield as WantsYield}
use Rattle.ira_node.specs.declared.wanted.Wanted.TheVariants.{Nothing}
use Rattle.ira_node.specs.NodeState.{first_state}
use Rattle.ira_node.specs.NodeStep.{NodeStep}
use Rattle.ira_node.specs.Wanted.{IsOfKind, wanted_of}
use Rattle.ira_node.proofs.Wants.{step_wanted}
use Rattle.ira_replay.specs.Laws.{AreAlike}
use Rattle.ira_replay.specs.LocalRun.{LeadsTo, IsLocalRun}
use Rattle.ira_replay.proofs.Reached.{same_next}

-- ---- the state

-- events lead to one state alone
pub one_end : (n : ℕ) (s : NodeState) (es : List Event) (t u : NodeState) → LeadsTo n s es t → LeadsTo n s es u → t ≡ u
one_end n s [] t u h k = h ∙ sym k
one_end n s (e ∷ es) t u h k =
    let P : NodeState → Type 0 = λ x. LeadsTo n x es u in
    one_end n h.0 es t u h.2 (subst P (same_next n s e k.0 h.0 k.1 h.1) k.2)

-- the first of the events lead to a state
pub leads_prefix : (n : ℕ) (s : NodeState) (es : List Event) (t : NodeState) (a : ℕ) → LeadsTo n s es t
    → (u : NodeState) × LeadsTo n s (take a es) u
leads_prefix n s es t zero h = (s, refl)
leads_prefix n s [] t (suc a) h = (s, refl)
leads_prefix n s (e ∷ es) t (suc a) h =
    let w = leads_prefix n h.0 es t a h.2 in
    (w.0, (h.0, h.1, w.1))

-- the first of the events lead to a state, and the others on from there
pub leads_split : (n : ℕ) (s : NodeState) (es fs : List Event) (t : NodeState) → LeadsTo n s (es ++ fs) t
    → (u : NodeState) × LeadsTo n s es u × LeadsTo n u fs t
leads_split n s [] fs t h = (s, refl, h)
leads_split n s (e ∷ es) fs t h =
    let rest = leads_split n h.0 es fs t h.2 in
    (rest.0, (h.0, h.1, rest.1), rest.2)

-- the state before event k, and its step
step_at : (n : ℕ) (s : NodeState) (es : List Event) (t : NodeState) (k : ℕ) (e : Event) → LeadsTo n s es t
    → slice_get es k ≡ Some e → (u : NodeState) × (v : NodeState) × LeadsTo n s (take k es) u × NodeStep n u e v
step_at n s [] t k e h at = absurd cc
step_at n s (x ∷ es) t zero e h at =
    let same : x ≡ e = cc in
    let P : Event → Type 0 = λ y. NodeStep n s y h.0 in
    (s, h.0, refl, subst P same h.1)
step_at n s (x ∷ es) t (suc k) e h at =
    let rest = step_at n h.0 es t k e h.2 at in
    (rest.0, rest.1, (h.0, h.1, rest.2), rest.3)

-- ---- the kind of the next event

one_kind : (w : Wanted) (e f : Event) → IsOfKind w e → IsOfKind w f → AreAlike e f
one_kind WantsDraw (Draw d) (Draw c) h k = tt
one_kind WantsDraw (Draw d) (Sent m) h k = absurd k
one_kind WantsDraw (Draw d) (Got m) h k = absurd k
one_kind WantsDraw (Draw d) Yield h k = absurd k
one_kind WantsDraw (Sent m) f h k = absurd h
one_kind WantsDraw Yield f h k = absurd h
one_kind WantsDraw (Got m) f h k = absurd h
one_kind (Send m) (Sent a) (Sent b) h k = h ∙ sym k
one_kind (Send m) (Sent a) (Draw d) h k = absurd k
one_kind (Send m) (Sent a) (Got b) h k = absurd k
one_kind (Send m) (Sent a) Yield h k = absurd k
one_kind (Send m) (Draw d) f h k = absurd h
one_kind (Send m) Yield f h k = absurd h
one_kind (Send m) (Got a) f h k = absurd h
one_kind Receipt (Got a) (Got b) h k = tt
one_kind Receipt (Got a) (Draw d) h k = absurd k
one_kind Receipt (Got a) (Sent b) h k = absurd k
one_kind Receipt (Got a) Yield h k = absurd k
one_kind Receipt (Draw d) f h k = absurd h
one_kind Receipt Yield f h k = absurd h
one_kind WantsYield Yield Yield h k = tt
one_kind WantsYield Yield (Draw d) h k = absurd k
one_kind WantsYield Yield (Sent a) h k = absurd k
one_kind WantsYield Yield (Got a) h k = absurd k
one_kind WantsYield (Draw d) f h k = absurd h
one_kind WantsYield (Sent a) f h k = absurd h
one_kind WantsYield (Got a) f h k = absurd h
one_kind Receipt (Sent a) f h k = absurd h
one_kind Nothing (Draw d) f h k = absurd h
one_kind Nothing (Sent a) f h k = absurd h
one_kind Nothing (Got a) f h k = absurd h
one_kind Nothing Yield f h k = absurd h

-- two events that lead on from one state
pub steps_alike : (n : ℕ) (s : NodeState) (e f : Event) (t u : NodeState) → NodeStep n s e t → NodeStep n s f u
    → AreAlike e f
steps_alike n s e f t u h k =
    one_kind (wanted_of s.term s.phase s.owed) e f (step_wanted n s e t h) (step_wanted n s f u k)

go_on_alike : (n : ℕ) (s : NodeState) (es fs : List Event) (t u : NodeState) (k : ℕ) (e f : Event) → LeadsTo n s es t
    → LeadsTo n s fs u → take k es ≡ take k fs → slice_get es k ≡ Some e → slice_get fs k ≡ Some f → AreAlike e f
go_on_alike n s es fs t u k e f h g same at there =
    let a = step_at n s es t k e h at in
    let b = step_at n s fs u k f g there in
    let P : List Event → Type 0 = λ xs. LeadsTo n s xs a.0 in
    let Q : NodeState → Type 0 = λ x. NodeStep n x f b.1 in
    steps_alike n a.0 e f a.1 b.1 a.3 (subst Q (one_end n s (take k fs) b.0 a.0 b.2 (subst P same a.2)) b.3)

pub local_runs_alike : (a b : Log) (k : ℕ) (e f : Event) → IsLocalRun a → IsLocalRun b → a.nodes ≡ b.nodes
    → a.initiator ≡ b.initiator → take k a.events ≡ take k b.events → slice_get a.events k ≡ Some e
    → slice_get b.events k ≡ Some f → AreAlike e f
local_runs_alike a b k e f h g nodes kind same at there =
    let P : ℕ × Bool → Type 0 = λ z. LeadsTo z.0 (first_state z.1) b.events g.0 in
    go_on_alike a.nodes (first_state a.initiator) a.events b.events h.0 g.0 k e f h.1
    (subst P (λ j. (sym nodes j, sym kind j)) g.1) same at there
