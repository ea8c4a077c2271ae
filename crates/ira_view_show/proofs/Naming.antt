-- Lines on nodes of which a ring says otherwise than its logs whether they lead.
use Rattle.std.proofs.Common.{◌≡◌, ◌↔◌, ℕ, zero, suc, ◌+◌, ◌<◌, inl, inr, Bool, true, false, ◌==◌, List, [], ◌∷◌, ◌++◌}
use Rattle.std.proofs.Common.{Some, refl, sym, ◌∙◌, ap, subst, arith, add-zero, eq-eqb, length}
use Rattle.std.specs.Prelude.{Contains, codes, decimal, slice_get}
use Rattle.std.specs.List.{enumerate_from, flat_map, list_any}
use Rattle.std.proofs.lemmas.Bool.Decides.{eqb_tells}
use Rattle.std.proofs.lemmas.List.Folds.{list_any_at}
use Rattle.std.proofs.lemmas.Option.{slice_get_within}
use Rattle.ira_node.specs.declared.node_state.NodeState.{NodeState}
use Rattle.ira_node.specs.declared.phase.Phase.{Phase}
use Rattle.ira_node.specs.declared.phase.Phase.TheVariants.{Choosing, Active, Passive, Leader, Yielding}
use Rattle.ira_node.specs.NodeState.{IsLeader}
use Rattle.ira_node.specs.Wanted.{wanted_of}
use Rattle.ira_view_moment.specs.declared.node_progress.NodeProgress.{NodeProgress}
use Rattle.ira_view_moment.specs.Moment.{AreLeaders, LeadsAt, Moment}
use Rattle.ira_view_show.specs.Leaders.{difference_text, differences_text, due_text, is_leader, node_difference}
use Rattle.ira_view_page.specs.Words.{state_text}

left_nil : (xs ys : List ℕ) → xs ++ ys ≡ [] → xs ≡ []
left_nil [] ys e = refl
left_nil (x ∷ xs) ys e = cc

right_nil : (xs ys : List ℕ) → xs ++ ys ≡ [] → ys ≡ []
right_nil [] ys e = e
right_nil (x ∷ xs) ys e = cc

ends_in_feed : (words : List ℕ) → words ++ 10 ∷ [] ≡ [] → ⊥
ends_in_feed words e = let none = right_nil words (10 ∷ []) e in cc

-- a node has a line just where it leads and isn't named, or is named and doesn't lead
as_named : (leads named : Bool) (place : ℕ) (s : NodeState) → difference_text leads named place s ≡ [] → leads ≡ named
as_named true true place s e = refl
as_named true false place s e =
    absurd (ends_in_feed (codes "node " ++ decimal place ++ codes " leads, and isn't named") e)
as_named false true place s e =
    absurd (
    ends_in_feed
    (codes "node " ++ decimal place ++ codes " doesn't lead: " ++ state_text s
    ++ due_text (wanted_of s.term s.phase s.owed)) e
    )
as_named false false place s e = refl

nothing_said : (leads named : Bool) (place : ℕ) (s : NodeState) → leads ≡ named
    → difference_text leads named place s ≡ []
nothing_said true true place s e = refl
nothing_said true false place s e = cc
nothing_said false true place s e = cc
nothing_said false false place s e = refl

-- the node is at its place among those that are named just where it leads
abbrev AsNamed : List ℕ → ℕ → NodeProgress → Type 0
AsNamed named place p = is_leader p.state.phase ≡ list_any (λ n. n == place) named

all_as_named : (named : List ℕ) (k : ℕ) (nodes : List NodeProgress)
    → flat_map (node_difference named) (enumerate_from k nodes) ≡ [] → (i : ℕ) (p : NodeProgress)
    → slice_get nodes i ≡ Some p → AsNamed named (k + i) p
all_as_named named k [] e i p at = cc
all_as_named named k (q ∷ nodes) e zero p at =
    let first = left_nil (node_difference named (k, q)) _ e in
    let here : AsNamed named k q = as_named _ _ k q.state first in
    let same : q ≡ p = cc in
    subst (λ (n : ℕ). AsNamed named n p) (sym (add-zero k)) (subst (AsNamed named k) same here)
all_as_named named k (q ∷ nodes) e (suc i) p at =
    let rest = right_nil (node_difference named (k, q)) _ e in
    let n : k + 1 + i ≡ k + suc i = omega arith in
    subst (λ (n : ℕ). AsNamed named n p) n (all_as_named named (k + 1) nodes rest i p at)

none_said : (named : List ℕ) (k : ℕ) (nodes : List NodeProgress)
    → ((i : ℕ) (p : NodeProgress) → slice_get nodes i ≡ Some p → AsNamed named (k + i) p)
    → flat_map (node_difference named) (enumerate_from k nodes) ≡ []
none_said named k [] all = refl
none_said named k (q ∷ nodes) all =
    let here : AsNamed named k q = subst (λ (n : ℕ). AsNamed named n q) (add-zero k) (all 0 q refl) in
    let none : node_difference named (k, q) ≡ [] = nothing_said _ _ k q.state here in
    let rest = none_said named (k + 1) nodes
    (λ i p at. let n : k + suc i ≡ k + 1 + i = omega arith in
    subst (λ (n : ℕ). AsNamed named n p) n (all (suc i) p at)) in
    ap (λ t. t ++ flat_map (node_difference named) (enumerate_from (k + 1) nodes)) none ∙ rest

leads_from : (phase : Phase) → is_leader phase ≡ true → IsLeader phase
leads_from (Leader round id) e = tt
leads_from (Choosing round) e = cc
leads_from (Active round id) e = cc
leads_from Passive e = cc
leads_from Yielding e = cc

leads_to : (phase : Phase) → IsLeader phase → is_leader phase ≡ true
leads_to (Leader round id) is = refl
leads_to (Choosing round) is = absurd is
leads_to (Active round id) is = absurd is
leads_to Passive is = absurd is
leads_to Yielding is = absurd is

named_from : (named : List ℕ) (i : ℕ) → list_any (λ n. n == i) named ≡ true → Contains named i
named_from [] i e = cc
named_from (n ∷ named) i e =
    elim (eqb_tells n i) [
      | inl (t, same) ↦ (0, omega arith, same)
      | inr (f, other) ↦
          (let rest : list_any (λ n. n == i) named ≡ true = rw f at e in
          let c = named_from named i rest in
          (suc c.0, omega (arith, c.1), c.2))
    ]

named_to : (named : List ℕ) (i : ℕ) → Contains named i → list_any (λ n. n == i) named ≡ true
named_to named i (k, within, is) = list_any_at (λ n. n == i) named k i within (eq-eqb _ i is)

node_at : (nodes : List NodeProgress) (i : ℕ) → i < length nodes
    → (p : NodeProgress) × (slice_get nodes i ≡ Some p)
node_at [] i l = absurd (omega arith)
node_at (p ∷ nodes) zero l = (p, refl)
node_at (p ∷ nodes) (suc i) l = node_at nodes i (omega arith)

agree : (m : Moment) (named : List ℕ) (i : ℕ) (p : NodeProgress) → slice_get m.nodes i ≡ Some p → AsNamed named i p
    → LeadsAt m i ↔ Contains named i
agree m named i p at is_so = (
  λ leads.
      let same : leads.progress ≡ p = (let there = leads.at in cc) in
      let is = leads_to p.state.phase (subst (λ (q : NodeProgress). IsLeader q.state.phase) same leads.leads) in
      named_from named i (sym is_so ∙ is),
  λ is. record { progress = p; at = at; leads = leads_from p.state.phase (is_so ∙ named_to named i is) },
)

disagree : (m : Moment) (named : List ℕ) (i : ℕ) (p : NodeProgress) → slice_get m.nodes i ≡ Some p
    → LeadsAt m i ↔ Contains named i → AsNamed named i p
disagree m named i p at both = by_kind (is_leader p.state.phase) (list_any (λ n. n == i) named) refl refl
  where
    by_kind : (l n : Bool) → is_leader p.state.phase ≡ l → list_any (λ n. n == i) named ≡ n → AsNamed named i p
    by_kind true true e f = e ∙ sym f
    by_kind false false e f = e ∙ sym f
    by_kind true false e f =
        let c = named_to named i (both.0 (record { progress = p; at = at; leads = leads_from _ e })) in cc
    by_kind false true e f =
        let leads = both.1 (named_from named i f) in
        let same : leads.progress ≡ p = (let there = leads.at in cc) in
        let is = leads_to p.state.phase (subst (λ (q : NodeProgress). IsLeader q.state.phase) same leads.leads) in cc

-- there is no line exactly where the named nodes are those that lead
pub none_differ : (m : Moment) (named text : List ℕ) → text ≡ differences_text named m.nodes
    → (text ≡ []) ↔ AreLeaders m named
none_differ m named text is = (
  λ none i l.
      let p = node_at m.nodes i l in
      let z : 0 + i ≡ i = omega arith in
      agree m named i p.0 p.1
      (subst (λ (n : ℕ). AsNamed named n p.0) z (all_as_named named 0 m.nodes (sym is ∙ none) i p.0 p.1)),
  λ all. is ∙ none_said named 0 m.nodes (λ i p at.
      let z : i ≡ 0 + i = omega arith in
      subst (λ (n : ℕ). AsNamed named n p) z (disagree m named i p at (all i (slice_get_within m.nodes i p at)))),
)
