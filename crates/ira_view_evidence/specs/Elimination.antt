-- States that one state of another node eliminates (Garg and Waldecker 1994).
use Rattle.std.specs.Prelude.{◌≡◌, ◌≢◌, ◌⊎◌, ℕ, ◌+◌, ◌<◌, ◌≤◌, List, [], ◌∷◌, ◌++◌, Contains, Some, slice_get, take}
use Rattle.ira_event.specs.Log.{Log}
use Rattle.ira_pred.specs.Case.{Conjunct}
use Rattle.ira_order.specs.Before.{Before}
use Rattle.ira_cert_text.specs.declared.cert_step.CertStep.{CertStep}
use Rattle.ira_cert.specs.Conjuncts.{CandidatesOf}
use Rattle.ira_view_evidence.specs.declared.elimination.Elimination.{Elimination}

-- state p of node i is one that the case asks for
abbrev pub IsCandidate : List Log → List Conjunct → ℕ → ℕ → Type 0
IsCandidate logs case i p = (positions : List ℕ) × CandidatesOf logs case i positions × Contains positions p

-- state p of node i is among the states of one of them
abbrev pub IsEliminated : List Elimination → ℕ → ℕ → Type 0
IsEliminated all i p =
    (h : ℕ) × (e : Elimination) × (slice_get all h ≡ Some e) × (e.node ≡ i) × (e.first ≤ p) × (p ≤ e.last)

-- after those before it: from one state that the case asks for to another; the event after its last state happened
-- before the one that led to the other node's state, and so did the event after each of its states that the case asks
-- for; and the other node's earlier states that the case asks for are eliminated
pub record IsElimination (logs : List Log) (case : List Conjunct) (before : List Elimination) (e : Elimination)
    : Type 0 where
  pub differ : e.node ≢ e.other
  pub first : IsCandidate logs case e.node e.first
  pub last : IsCandidate logs case e.node e.last
  pub run : e.first ≤ e.last
  pub over : Before logs e.node (e.last + 1) e.other e.other_pos
  pub each :
      (p : ℕ) → IsCandidate logs case e.node p → e.first ≤ p → p ≤ e.last
      → Before logs e.node (p + 1) e.other e.other_pos
  pub asked : IsCandidate logs case e.other e.other_pos
  pub earlier : (q : ℕ) → IsCandidate logs case e.other q → q < e.other_pos → IsEliminated before e.other q

-- each is one after those before it
abbrev pub AreEliminations : List Log → List Conjunct → List Elimination → Type 0
AreEliminations logs case all =
    (h : ℕ) (e : Elimination) → slice_get all h ≡ Some e → IsElimination logs case (take h all) e

-- the elimination of one state
abbrev pub of_step : CertStep → Elimination
of_step s = record { node = s.node; first = s.pos; last = s.pos; other = s.other; other_pos = s.other_pos }

-- the step eliminates a further state of the node by the same state of the other
abbrev pub GoesOnWith : Elimination → CertStep → Type 0
GoesOnWith e s = (e.node ≡ s.node) × (e.other ≡ s.other) × (e.other_pos ≡ s.other_pos)

-- the elimination with this as its last state
abbrev pub ending : Elimination → ℕ → Elimination
ending e p = record { node = e.node; first = e.first; last = p; other = e.other; other_pos = e.other_pos }

-- the last of them goes on with the step
pub record IsFurther (old : List Elimination) (s : CertStep) (new : List Elimination) : Type 0 where
  pub before : List Elimination
  pub last : Elimination
  pub old_is : old ≡ before ++ last ∷ []
  pub goes_on : GoesOnWith last s
  pub new_is : new ≡ before ++ ending last s.pos ∷ []

-- there is no last one of them that goes on with the step
abbrev pub HasEnded : List Elimination → CertStep → Type 0
HasEnded old s = (before : List Elimination) (last : Elimination) → old ≡ before ++ last ∷ [] → ¬ (GoesOnWith last s)

-- the step is added to them
abbrev pub IsAdded : List Elimination → CertStep → List Elimination → Type 0
IsAdded old s new = ((new ≡ old ++ of_step s ∷ []) × HasEnded old s) ⊎ IsFurther old s new

-- they are these steps, added one after the other
pub data AreOfSteps : List CertStep → List Elimination → Type 0 where
  none : AreOfSteps [] []
  added : (steps : List CertStep) (s : CertStep) (old new : List Elimination) → AreOfSteps steps old → IsAdded old s new
      → AreOfSteps (steps ++ s ∷ []) new
