-- The first node that leads.
use Rattle.std.proofs.Common.{◌≡◌, ℕ, zero, suc, ◌+◌, List, [], ◌∷◌, Option, Some, None, drop, add-one, sym, ap}
use Rattle.std.proofs.Common.{◌∙◌, ◌↔◌, refl, subst}
use Rattle.std.specs.Prelude.{slice_get}
use Rattle.ira_node.specs.NodeState.{IsLeader}
use Rattle.ira_node.specs.declared.phase.Phase.{Phase}
use Rattle.ira_node.specs.declared.phase.Phase.TheVariants.{Choosing, Active, Passive, Leader, Yielding}
use Rattle.ira_view_moment.specs.Moment.{Moment}
use Rattle.ira_view_moment.specs.declared.node_progress.NodeProgress.{NodeProgress}
use Rattle.ira_view_election.specs.ElectionAt.{SomeNodeLeads}
use Rattle.ira_view_show.specs.Leaders.{missing_text}
use Rattle.ira_view_page.specs.declared.summary.Leads.{Leads}
use Rattle.ira_view_show.specs.Summary.{leader_from, leads_as, leads_in, or_else}

drop_suc : {X : Type 0} (xs : List X) (i : ℕ) (x : X) → slice_get xs i ≡ Some x → drop i xs ≡ x ∷ drop (suc i) xs
drop_suc [] i x e = cc
drop_suc (y ∷ ys) zero x e = cc
drop_suc (y ∷ ys) (suc i) x e = drop_suc ys i x e

-- the first that leads of those from a place on, where that place's node is known
from_here : (nodes : List NodeProgress) (place : ℕ) (p : NodeProgress) (found : Option Leads)
    → slice_get nodes place ≡ Some p → found ≡ leads_in place p.state
    → leader_from place (drop place nodes) ≡ or_else found (leader_from (place + 1) (drop (place + 1) nodes))
from_here nodes place p found at is =
    ap (leader_from place) (drop_suc nodes place p at)
    ∙ ap (λ i. or_else (leads_in place p.state) (leader_from (place + 1) (drop i nodes))) (sym (add-one place))
    ∙ ap (λ o. or_else o (leader_from (place + 1) (drop (place + 1) nodes))) (sym is)

pub leads_later : (nodes : List NodeProgress) (place : ℕ) (p : NodeProgress) (found : Option Leads)
    → slice_get nodes place ≡ Some p → found ≡ leads_in place p.state → found ≡ None
    → leader_from 0 nodes ≡ leader_from place (drop place nodes)
    → leader_from 0 nodes ≡ leader_from (place + 1) (drop (place + 1) nodes)
leads_later nodes place p found at is none h =
    h ∙ from_here nodes place p found at is
    ∙ ap (λ o. or_else o (leader_from (place + 1) (drop (place + 1) nodes))) none

pub leads_here : (nodes : List NodeProgress) (place : ℕ) (p : NodeProgress) (found : Option Leads) (l : Leads)
    → slice_get nodes place ≡ Some p → found ≡ leads_in place p.state → found ≡ Some l
    → leader_from 0 nodes ≡ leader_from place (drop place nodes) → found ≡ leader_from 0 nodes
leads_here nodes place p found l at is some h =
    some ∙ sym (h ∙ from_here nodes place p found at is
    ∙ ap (λ o. or_else o (leader_from (place + 1) (drop (place + 1) nodes))) some)

-- ---- whether one does

leads_from : (place term : ℕ) (phase : Phase) (l : Leads) → leads_as place term phase ≡ Some l → IsLeader phase
leads_from place term (Leader round id) l e = tt
leads_from place term (Choosing round) l e = cc
leads_from place term (Active round id) l e = cc
leads_from place term Passive l e = cc
leads_from place term Yielding l e = cc

leads_to : (place term : ℕ) (phase : Phase) → IsLeader phase → leads_as place term phase ≡ None → ⊥
leads_to place term (Leader round id) is e = cc
leads_to place term (Choosing round) is e = is
leads_to place term (Active round id) is e = is
leads_to place term Passive is e = is
leads_to place term Yielding is e = is

-- a node of these leads
record OneLeads (nodes : List NodeProgress) : Type 0 where
  place : ℕ
  progress : NodeProgress
  at : slice_get nodes place ≡ Some progress
  leads : IsLeader progress.state.phase

one_found : (k : ℕ) (nodes : List NodeProgress) (l : Leads) → leader_from k nodes ≡ Some l → OneLeads nodes
one_found k [] l e = cc
one_found k (p ∷ nodes) l e = go (leads_in k p.state) refl (one_found (k + 1) nodes l) e
  where
    go : (o : Option Leads) → leads_in k p.state ≡ o → (leader_from (k + 1) nodes ≡ Some l → OneLeads nodes)
        → or_else o (leader_from (k + 1) nodes) ≡ Some l → OneLeads (p ∷ nodes)
    go (Some m) is later found =
        record { place = 0; progress = p; at = refl; leads = leads_from k p.state.term p.state.phase m is }
    go None is later found =
        let rest = later found in
        record { place = suc rest.place; progress = rest.progress; at = rest.at; leads = rest.leads }

none_found : (k : ℕ) (nodes : List NodeProgress) (i : ℕ) (p : NodeProgress) → slice_get nodes i ≡ Some p
    → IsLeader p.state.phase → leader_from k nodes ≡ None → ⊥
none_found k [] i p at leads e = cc
none_found k (q ∷ nodes) i p at leads e =
    go (leads_in k q.state) refl (λ j at. none_found (k + 1) nodes j p at leads) e i at
  where
    go : (o : Option Leads) → leads_in k q.state ≡ o
        → ((j : ℕ) → slice_get nodes j ≡ Some p → leader_from (k + 1) nodes ≡ None → ⊥)
        → or_else o (leader_from (k + 1) nodes) ≡ None → (i : ℕ) → slice_get (q ∷ nodes) i ≡ Some p → ⊥
    go (Some m) is later found i at = cc
    go None is later found zero at =
        let same : q ≡ p = cc in
        leads_to k q.state.term q.state.phase (subst (λ (n : NodeProgress). IsLeader n.state.phase) (sym same) leads) is
    go None is later found (suc i) at = later i at found

-- nothing is said exactly where some node leads
pub none_missing : (m : Moment) (text : List ℕ) → text ≡ missing_text (leader_from 0 m.nodes)
    → (text ≡ []) ↔ SomeNodeLeads m
none_missing m text is = go (leader_from 0 m.nodes) refl is
  where
    go : (o : Option Leads) → leader_from 0 m.nodes ≡ o → text ≡ missing_text o → (text ≡ []) ↔ SomeNodeLeads m
    go None none said = (
      λ e. cc,
      λ some. absurd (none_found 0 m.nodes some.0 some.1.progress some.1.at some.1.leads none),
    )
    go (Some l) some said = (
      λ e.
          let one = one_found 0 m.nodes l some in
          (one.place, record { progress = one.progress; at = one.at; leads = one.leads }),
      λ one. said,
    )
