-- Yields of a run of several terms, and terms that never fall.
use Rattle.std.proofs.Common.{◌≡◌, ℕ, ◌<◌, List, [], ◌∷◌, ◌++◌, refl, sym, subst}
use Rattle.ira_event.specs.declared.event.Event.{Event}
use Rattle.ira_event.specs.declared.event.Event.TheVariants.{Yield}
use Rattle.ira_node.specs.declared.node_state.NodeState.{NodeState}
use Rattle.ira_node.specs.NodeStep.{yields}
use Rattle.ira_replay.specs.LocalRun.{LeadsTo}
use Rattle.ira_replay.proofs.Reached.{same_next}
use Rattle.ira_ring_setup.specs.Terms.{YieldsBelow}

-- ---- yields

-- one event more
pub yields_more : (terms n : ℕ) (s : NodeState) (es : List Event) (t : NodeState) (e : Event) → LeadsTo n s es t
    → YieldsBelow terms n s es → (e ≡ Yield → t.term < terms)
    → YieldsBelow terms n s (es ++ e ∷ [])
yields_more terms n s [] t e leads below low =
    let P : NodeState → Type 0 = λ x. x.term < terms in
    (λ y. subst P leads (low y), λ u step. tt)
yields_more terms n s (x ∷ es) t e leads below low = (
  below.0,
  λ u step.
      let same : leads.0 ≡ u = same_next n s x leads.0 u leads.1 step in
      let P : NodeState → Type 0 = λ v. LeadsTo n v es t in
      yields_more terms n u es t e (subst P same leads.2) (below.1 u step) low,
)

-- the state before a yield is in a term before the last
pub yields_at : (terms n : ℕ) (s : NodeState) (es rest : List Event) (t : NodeState) → LeadsTo n s es t
    → YieldsBelow terms n s (es ++ Yield ∷ rest) → t.term < terms
yields_at terms n s [] rest t leads below = let P : NodeState → Type 0 = λ x. x.term < terms in
    subst P (sym leads) (below.0 refl)
yields_at terms n s (x ∷ es) rest t leads below = yields_at terms n leads.0 es rest t leads.2 (below.1 leads.0 leads.1)
