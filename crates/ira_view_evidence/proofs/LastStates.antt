-- The last states up to an event without a step.
use Rattle.std.proofs.Common.{◌≡◌, ℕ, zero, suc, ◌+◌, ◌-◌, ◌<◌, ◌≤◌, inl, inr, Bool, true, false, cond, leb, List, []}
use Rattle.std.proofs.Common.{◌∷◌, ◌++◌, Some, Ok, Err, length, refl, sym, ◌∙◌, ap, subst, arith, drop, length-drop}
use Rattle.std.specs.List.{enumerate_from}
use Rattle.std.specs.Prelude.{slice_get}
use Rattle.std.proofs.Math.ListN.{drop_of_length-le}
use Rattle.std.proofs.lemmas.Bool.{cases_lt, le-leb, leb-true}
use Rattle.ira_event.specs.declared.event.Event.{Event}
use Rattle.ira_event.specs.Log.{Log}
use Rattle.ira_node.specs.NodeState.{first_state}
use Rattle.ira_node.specs.NodeStepFault.{NodeStepFault}
use Rattle.ira_node.specs.StepAnswer.{answer}
use Rattle.ira_node.specs.declared.node_state.NodeState.{NodeState}
use Rattle.ira_node.specs.declared.step_fault.StepFault.{StepFault}
use Rattle.ira_node.proofs.Answers.{fault_gives, step_gives}
use Rattle.ira_order.specs.Ring.{numbered}
use Rattle.ira_replay.specs.LocalRun.{IsFirstFault, LeadsTo}
use Rattle.ira_replay.specs.StatesOfLog.{ArePlacedStates, AreStates}
use Rattle.ira_replay.specs.declared.replay_fault.ReplayFault.{ReplayFault}
use Rattle.ira_replay.proofs.Reached.{same_next}
use Rattle.ira_view_evidence.specs.NodeEvidence.{IsNodeEvidence}

-- those of placed states that stand from a position on
abbrev pub kept : ℕ → List (ℕ × NodeState) → List NodeState
kept first [] = []
kept first (x ∷ xs) = cond (leb first x.0) (x.1 ∷ kept first xs) (kept first xs)

-- with one that is kept, and one that isn't
pub kept_more : (first p : ℕ) (s : NodeState) (xs : List (ℕ × NodeState)) → first ≤ p
    → kept first ((p, s) ∷ xs) ≡ s ∷ kept first xs
kept_more first p s xs l = (let test : leb first p ≡ true = le-leb first p l in rw test refl)

not_below : (first p : ℕ) → p < first → leb first p ≡ false
not_below first p l = by_test (leb first p) refl
  where
    by_test : (b : Bool) → leb first p ≡ b → leb first p ≡ false
    by_test true is = absurd (omega (arith, leb-true first p is, l))
    by_test false is = is

pub kept_over : (first p : ℕ) (s : NodeState) (xs : List (ℕ × NodeState)) → p < first
    → kept first ((p, s) ∷ xs) ≡ kept first xs
kept_over first p s xs l = (let test : leb first p ≡ false = not_below first p l in rw test refl)

kept_from : (first p : ℕ) (ts : List NodeState) → kept first (enumerate_from p ts) ≡ drop (first - p) ts
kept_from first p [] = sym (drop_of_length-le [] (omega arith))
kept_from first p (t ∷ ts) = elim (cases_lt p first) [
  | inl low ↦
      let less : first - p ≡ suc (first - (p + 1)) = omega (arith, low) in
      rw less (kept_over first p t (enumerate_from (p + 1) ts) low ∙ kept_from first (p + 1) ts)
  | inr high ↦
      let none : first - p ≡ 0 = omega (arith, high) in
      let none' : first - (p + 1) ≡ 0 = omega (arith, high) in
      let rest : kept first (enumerate_from (p + 1) ts) ≡ ts = kept_from first (p + 1) ts ∙ rw none' refl in
      rw none (kept_more first p t (enumerate_from (p + 1) ts) high ∙ ap (λ xs. t ∷ xs) rest)
]

pub kept_are_last : (first : ℕ) (ts : List NodeState) → kept first (enumerate_from 0 ts) ≡ drop first ts
kept_are_last first ts = (let all : first - 0 ≡ first = omega arith in kept_from first 0 ts ∙ ap (λ n. drop n ts) all)

-- the states end with the one whose event has no step
stop_states : (n : ℕ) (s : NodeState) (before : List Event) (e : Event) (after : List Event) (state : NodeState)
    (f : StepFault) (ts : List NodeState) → AreStates n s (before ++ e ∷ after) ts → LeadsTo n s before state
    → NodeStepFault n state e f → (length ts ≡ length before + 1) × (slice_get ts (length before) ≡ Some state)
stop_states n s [] e after state f ts (inl none) leads fault = rw none.1 (refl, ap Some (sym leads))
stop_states n s [] e after state f ts (inr some) leads fault =
    let a : answer n s e ≡ Ok some.0 = step_gives n s e some.0 some.2 in
    let b : answer n s e ≡ Err f = fault_gives n s e f (subst (λ x. NodeStepFault n x e f) leads fault) in
    absurd cc
stop_states n s (b ∷ before) e after state f ts (inl none) leads fault = absurd (none.0 (leads.0, leads.1))
stop_states n s (b ∷ before) e after state f ts (inr some) leads fault =
    let same : some.0 ≡ leads.0 = same_next n s b some.0 leads.0 some.2 leads.1 in
    let are : AreStates n leads.0 (before ++ e ∷ after) some.1 =
    subst (λ x. AreStates n x (before ++ e ∷ after) some.1) same some.3 in
    let rest = stop_states n leads.0 before e after state f some.1 are leads.2 fault in
    rw some.4 (omega (arith, rest.0), rest.1)

event_between : (before : List Event) (e : Event) (after : List Event)
    → slice_get (before ++ e ∷ after) (length before) ≡ Some e
event_between [] e after = refl
event_between (b ∷ before) e after = event_between before e after

dropped : (ts : List NodeState) (k m : ℕ) → slice_get (drop k ts) m ≡ slice_get ts (k + m)
dropped ts zero m = (let same : m ≡ 0 + m = omega arith in ap (slice_get ts) same)
dropped [] (suc k) m = refl
dropped (t ∷ ts) (suc k) m = (let same : suc (k + m) ≡ suc k + m = omega arith in
    dropped ts k m ∙ ap (slice_get (t ∷ ts)) same)

pub node_evidence : (log : Log) (f : ReplayFault) (states : List NodeState) (placed : List (ℕ × NodeState))
    → IsFirstFault log f → ArePlacedStates log.nodes (first_state log.initiator) log.events placed
    → states ≡ kept (f.position - 5) placed → IsNodeEvidence log f (f.position - 5) states
node_evidence log f states placed stop are is =
    let all : List NodeState = are.0 in
    let here : AreStates log.nodes (first_state log.initiator) (stop.before ++ stop.event ∷ stop.after) are.0 =
    subst (λ es. AreStates log.nodes (first_state log.initiator) es are.0) stop.parts are.1 in
    let last = stop_states log.nodes (first_state log.initiator) stop.before stop.event stop.after stop.state f.fault
    are.0 here stop.leads stop.fault in
    let ones : states ≡ drop (f.position - 5) are.0 =
    is ∙ ap (kept (f.position - 5)) are.2 ∙ kept_are_last (f.position - 5) are.0 in
    let many : length states ≡ length are.0 - (f.position - 5) = ap length ones ∙ length-drop (f.position - 5) are.0 in
    let number : f.position - 5 + length states ≡ f.position = omega (arith, many, last.0, stop.position) in
    let index : length states ≡ suc (length states - 1) = omega (arith, many, last.0, stop.position) in
    let member : slice_get states (length states - 1) ≡ Some stop.state =
    let at : f.position - 5 + (length states - 1) ≡ length stop.before = omega (arith, number, index, stop.position) in
    ap (λ xs. slice_get xs (length states - 1)) ones ∙ dropped are.0 (f.position - 5) (length states - 1)
    ∙ ap (slice_get are.0) at ∙ last.1 in
    let event : numbered log.events f.position ≡ Some stop.event =
    let at : f.position ≡ suc (length stop.before) = omega (arith, stop.position) in
    rw at (ap (λ es. slice_get es (length stop.before)) stop.parts ∙ event_between stop.before stop.event stop.after) in
    record {
      faulty = stop;
      first_is = refl;
      all = are.0;
      are = are.1;
      last_ones = ones;
      number = number;
      event = stop.event;
      event_is = event;
      last = stop.state;
      last_is = ap (numbered states) index ∙ member;
      no_step = stop.fault;
    }
