-- The functions along a list of events give what the relations say.
use Rattle.std.proofs.Common.{◌≡◌, ℕ, ◌+◌, inl, inr, ◌↔◌, List, [], ◌∷◌, ◌++◌, length, Some, Result, Ok, Err, refl, sym}
use Rattle.std.proofs.Common.{◌∙◌, ap, subst, arith}
use Rattle.std.specs.List.{enumerate_from}
use Rattle.ira_event.specs.declared.event.Event.{Event}
use Rattle.ira_node.specs.declared.node_state.NodeState.{NodeState}
use Rattle.ira_node.specs.declared.step_fault.StepFault.{StepFault}
use Rattle.ira_node.specs.NodeStep.{NodeStep}
use Rattle.ira_node.specs.NodeStepFault.{NodeStepFault}
use Rattle.ira_node.specs.StepAnswer.{answer}
use Rattle.ira_node.proofs.Answers.{step_exactly, fault_exactly, step_gives, fault_gives}
use Rattle.ira_replay.specs.declared.replay_fault.ReplayFault.{ReplayFault}
use Rattle.ira_replay.specs.LocalRun.{LeadsTo, StopsAt}
use Rattle.ira_replay.specs.StatesOfLog.{AreStates, ArePlacedStates}
use Rattle.ira_replay.specs.StatesLeft.{advanced, states_left, placed, replayed}

-- ---- the states

-- the states from s at position p on
abbrev PlacedFrom : ℕ → ℕ → NodeState → List Event → List (ℕ × NodeState) → Type 0
PlacedFrom n p s es xs = (ts : List NodeState) × AreStates n s es ts × (xs ≡ enumerate_from p ts)

next_placed : (n p : ℕ) (s : NodeState) (e : Event) (es : List Event) (r : Result NodeState StepFault)
    → answer n s e ≡ r → ((t : NodeState) → PlacedFrom n (p + 1) t es (states_left n (Some (p + 1, t)) es))
    → PlacedFrom n p s (e ∷ es) ((p, s) ∷ states_left n (advanced p r) es)
next_placed n p s e es (Ok t) a on =
    let h : PlacedFrom n (p + 1) t es (states_left n (Some (p + 1, t)) es) = on t in
    (s ∷ h.0, inr (t, h.0, (step_exactly n s e (answer n s e) refl t).0 a, h.1, refl), ap (λ xs. (p, s) ∷ xs) h.2)
next_placed n p s e es (Err f) a on =
    (s ∷ [], inl (λ h. (let k : answer n s e ≡ Ok h.0 = step_gives n s e h.0 h.1 in cc), refl), refl)

placed_from : (n p : ℕ) (s : NodeState) (es : List Event) → PlacedFrom n p s es (states_left n (Some (p, s)) es)
placed_from n p s [] = (s ∷ [], refl, refl)
placed_from n p s (e ∷ es) = next_placed n p s e es (answer n s e) refl (λ t. placed_from n (p + 1) t es)

pub are_placed_states : (n : ℕ) (s : NodeState) (es : List Event)
    → ArePlacedStates n s es (states_left n (Some (0, s)) es)
are_placed_states n s es = placed_from n 0 s es

-- ---- a replay that comes to the end

leads_on : (n p : ℕ) (s : NodeState) (e : Event) (es : List Event) (t : NodeState) (r : Result NodeState StepFault)
    → answer n s e ≡ r → replayed n (p + 1) (placed (p + 1) r) es ≡ Ok t
    → ((u : NodeState) → replayed n (p + 1) (Ok u) es ≡ Ok t → LeadsTo n u es t) → (u : NodeState) × NodeStep n s e u
    × LeadsTo n u es t
leads_on n p s e es t (Ok u) a h on = (u, (step_exactly n s e (answer n s e) refl u).0 a, on u h)
leads_on n p s e es t (Err f) a h on = cc

to_leads : (n p : ℕ) (s : NodeState) (es : List Event) (t : NodeState) → replayed n p (Ok s) es ≡ Ok t
    → LeadsTo n s es t
to_leads n p s [] t h = cc
to_leads n p s (e ∷ es) t h = leads_on n p s e es t (answer n s e) refl h (λ u k. to_leads n (p + 1) u es t k)

from_leads : (n p : ℕ) (s : NodeState) (es : List Event) (t : NodeState) → LeadsTo n s es t
    → replayed n p (Ok s) es ≡ Ok t
from_leads n p s [] t h = rw h refl
from_leads n p s (e ∷ es) t h = ap (λ r. replayed n (p + 1) (placed (p + 1) r) es) (step_gives n s e h.0 h.1)
    ∙ from_leads n (p + 1) h.0 es t h.2

pub leads_exactly : (n : ℕ) (s : NodeState) (es : List Event) (r : Result NodeState ReplayFault)
    → r ≡ replayed n 0 (Ok s) es → (t : NodeState) → (r ≡ Ok t) ↔ LeadsTo n s es t
leads_exactly n s es r a t = (λ h. to_leads n 0 s es t (sym a ∙ h), λ h. a ∙ from_leads n 0 s es t h)

-- ---- a replay that stops

-- the events from s at position p on stop at the one that the fault names
record StopsFrom (n p : ℕ) (s : NodeState) (es : List Event) (f : ReplayFault) : Type 0 where
  before : List Event
  event : Event
  after : List Event
  state : NodeState
  parts : es ≡ before ++ event ∷ after
  leads : LeadsTo n s before state
  position : f.position ≡ p + length before + 1
  fault : NodeStepFault n state event f.fault

stops_on : (n p : ℕ) (s : NodeState) (e : Event) (es : List Event) (f : ReplayFault) (r : Result NodeState StepFault)
    → answer n s e ≡ r → replayed n (p + 1) (placed (p + 1) r) es ≡ Err f
    → ((u : NodeState) → replayed n (p + 1) (Ok u) es ≡ Err f → StopsFrom n (p + 1) u es f) → StopsFrom n p s (e ∷ es) f
stops_on n p s e es f (Ok u) a h on =
    let k : StopsFrom n (p + 1) u es f = on u h in
    record {
      before = e ∷ k.before;
      event = k.event;
      after = k.after;
      state = k.state;
      parts = ap (λ xs. e ∷ xs) k.parts;
      leads = (u, (step_exactly n s e (answer n s e) refl u).0 a, k.leads);
      position = omega arith;
      fault = k.fault;
    }
stops_on n p s e es f (Err g) a h on =
    let same : record { position = p + 1; fault = g } ≡ f = cc in
    let F : ReplayFault → Type 0 = λ k. NodeStepFault n s e k.fault in
    record {
      before = [];
      event = e;
      after = es;
      state = s;
      parts = refl;
      leads = refl;
      position = omega (arith, ap (λ k. k.position) same);
      fault = subst F same ((fault_exactly n s e (answer n s e) refl g).0 a);
    }

to_stops : (n p : ℕ) (s : NodeState) (es : List Event) (f : ReplayFault) → replayed n p (Ok s) es ≡ Err f
    → StopsFrom n p s es f
to_stops n p s [] f h = cc
to_stops n p s (e ∷ es) f h = stops_on n p s e es f (answer n s e) refl h (λ u k. to_stops n (p + 1) u es f k)

stopped : (n p q : ℕ) (s : NodeState) (e : Event) (es : List Event) (g : StepFault) → q ≡ p + 1 → NodeStepFault n s e g
    → replayed n p (Ok s) (e ∷ es) ≡ Err (record { position = q; fault = g })
stopped n p q s e es g h k =
    ap (λ r. replayed n (p + 1) (placed (p + 1) r) es) (fault_gives n s e g k)
    ∙ ap (λ x. Err (record { position = x; fault = g })) (sym h)

from_stops : (n p : ℕ) (s : NodeState) (before : List Event) (e : Event) (after : List Event) (state : NodeState)
    (f : ReplayFault) → LeadsTo n s before state → f.position ≡ p + length before + 1 → NodeStepFault n state e f.fault
    → replayed n p (Ok s) (before ++ e ∷ after) ≡ Err f
from_stops n p s [] e after state f leads position fault =
    stopped n p f.position s e after f.fault (omega arith) (subst (λ x. NodeStepFault n x e f.fault) leads fault)
from_stops n p s (b ∷ before) e after state f leads position fault =
    ap (λ r. replayed n (p + 1) (placed (p + 1) r) (before ++ e ∷ after)) (step_gives n s b leads.0 leads.1)
    ∙ from_stops n (p + 1) leads.0 before e after state f leads.2 (omega arith) fault

to_stops_at : (n : ℕ) (s : NodeState) (es : List Event) (f : ReplayFault) → StopsFrom n 0 s es f → StopsAt n s es f
to_stops_at n s es f h =
    record {
      before = h.before;
      event = h.event;
      after = h.after;
      state = h.state;
      parts = h.parts;
      leads = h.leads;
      position = omega arith;
      fault = h.fault;
    }

from_stops_at : (n : ℕ) (s : NodeState) (es : List Event) (f : ReplayFault) → StopsAt n s es f
    → replayed n 0 (Ok s) es ≡ Err f
from_stops_at n s es f h =
    rw h.parts (from_stops n 0 s h.before h.event h.after h.state f h.leads (omega arith) h.fault)

pub stops_exactly : (n : ℕ) (s : NodeState) (es : List Event) (r : Result NodeState ReplayFault)
    → r ≡ replayed n 0 (Ok s) es → (f : ReplayFault) → (r ≡ Err f) ↔ StopsAt n s es f
stops_exactly n s es r a f = (
  λ h. to_stops_at n s es f (to_stops n 0 s es f (sym a ∙ h)),
  λ h. a ∙ from_stops_at n s es f h,
)

-- ---- one event more

-- the step of the event after the others leads one state on
pub leads_further : (n : ℕ) (s : NodeState) (es : List Event) (t : NodeState) (e : Event) (u : NodeState)
    → LeadsTo n s es t → NodeStep n t e u → LeadsTo n s (es ++ e ∷ []) u
leads_further n s [] t e u h k = (u, subst (λ x. NodeStep n x e u) h k, refl)
leads_further n s (x ∷ xs) t e u h k = (h.0, h.1, leads_further n h.0 xs t e u h.2 k)
