-- The states of one node along its events.
use Rattle.std.proofs.Common.{◌≡◌, ℕ, zero, suc, ◌+◌, ◌≤◌, inl, inr, Bool, true, false, Option, Some, None, List, []}
use Rattle.std.proofs.Common.{◌∷◌, ◌++◌, length, take, refl, ◌∙◌, ap, subst, arith, add-one}
use Rattle.std.specs.Prelude.{slice_get}
use Rattle.std.specs.List.{filter_map, cons_option}
use Rattle.std.proofs.lemmas.Bool.{cases_lt}
use Rattle.std.proofs.lemmas.Option.{slice_get_cases, slice_get_within, get_or_from_slice_get}
use Rattle.ira_event.specs.declared.load.Load.{Load}
use Rattle.ira_event.specs.declared.event.Event.{Event}
use Rattle.ira_event.specs.Log.{Log}
use Rattle.ira_event.specs.Messages.{sending, receipt, sent, got}
use Rattle.ira_node.specs.declared.node_state.NodeState.{NodeState}
use Rattle.ira_node.specs.NodeState.{first_state}
use Rattle.ira_node.specs.NodeStep.{NodeStep}
use Rattle.ira_replay.specs.LocalRun.{LeadsTo, IsLocalRun}
use Rattle.ira_replay.proofs.Reached.{same_next}
use Rattle.ira_order.specs.Ring.{events_of}
use Rattle.ira_order.proofs.Ranks.{filter_map_more}
use Rattle.ira_order.proofs.RunsOfLogs.{state_at, state_step}
use Rattle.ira_safety.proofs.Steps.{resets, resets_in, yielding, Settled, settled_first, stays_settled, term_more}
use Rattle.ira_safety.proofs.Steps.{term_rises, balance}

-- st a is the state after the first a events, past all of them the last one
pub record IsCourse (n : ℕ) (es : List Event) (st : ℕ → NodeState) : Type 0 where
  pub initiator : Bool
  pub first : st 0 ≡ first_state initiator
  pub steps : (a : ℕ) (e : Event) → slice_get es a ≡ Some e → NodeStep n (st a) e (st (suc a))
  pub ends : (a : ℕ) → length es ≤ a → st (suc a) ≡ st a

-- ---- a local run has one

at_end : (n : ℕ) (s : NodeState) (es : List Event) (t : NodeState) (h : LeadsTo n s es t) (a : ℕ) → length es ≤ a
    → state_at n s es t h (suc a) ≡ state_at n s es t h a
at_end n s [] t h zero past = refl
at_end n s [] t h (suc a) past = refl
at_end n s (x ∷ es) t h zero past = absurd (omega arith)
at_end n s (x ∷ es) t h (suc a) past = at_end n h.0 es t h.2 a (omega arith)

at_reached : (n : ℕ) (s : NodeState) (es : List Event) (t : NodeState) (h : LeadsTo n s es t) (a : ℕ) (u : NodeState)
    → LeadsTo n s (take a es) u → u ≡ state_at n s es t h a
at_reached n s [] t h zero u k = k
at_reached n s [] t h (suc a) u k = k
at_reached n s (x ∷ es) t h zero u k = k
at_reached n s (x ∷ es) t h (suc a) u k =
    let P : NodeState → Type 0 = λ y. LeadsTo n y (take a es) u in
    at_reached n h.0 es t h.2 a u (subst P (same_next n s x k.0 h.0 k.1 h.1) k.2)

-- the state of a log after its first a events
abbrev pub log_state : (o : Option Log) → ((log : Log) → o ≡ Some log → IsLocalRun log) → ℕ → NodeState
log_state None local a = first_state false
log_state (Some log) local a =
    state_at log.nodes (first_state log.initiator) log.events (local log refl).0 (local log refl).1 a

pub log_course : (o : Option Log) (local : (log : Log) → o ≡ Some log → IsLocalRun log) (n : ℕ)
    → ((log : Log) → o ≡ Some log → log.nodes ≡ n) → IsCourse n (events_of o) (log_state o local)
log_course None local n size = record { initiator = false; first = refl; steps = λ a e at. cc; ends = λ a past. refl }
log_course (Some log) local n size = record {
  initiator = log.initiator;
  first = refl;
  steps = λ a e at.
      let P : ℕ → Type 0 = λ x. NodeStep x (log_state (Some log) local a) e (log_state (Some log) local (suc a)) in
      subst P (size log refl) (state_step log.nodes (first_state log.initiator) log.events (local log refl).0
      (local log refl).1 a e at);
  ends = at_end log.nodes (first_state log.initiator) log.events (local log refl).0 (local log refl).1;
}

pub log_reached : (o : Option Log) (local : (log : Log) → o ≡ Some log
    → IsLocalRun log) (log : Log) (a : ℕ) (u : NodeState) → o ≡ Some log
    → LeadsTo log.nodes (first_state log.initiator) (take a log.events) u → u ≡ log_state o local a
log_reached None local log a u is k = cc
log_reached (Some x) local log a u is k =
    let same : log ≡ x = cc in
    let P : Log → Type 0 = λ y. LeadsTo y.nodes (first_state y.initiator) (take a y.events) u in
    at_reached x.nodes (first_state x.initiator) x.events (local x refl).0 (local x refl).1 a u (subst P same k)

-- ---- what holds along it

pub first_state_term : (initiator : Bool) → (first_state initiator).term ≡ 1
first_state_term true = refl
first_state_term false = refl

first_balance : (initiator : Bool) → 0 + resets_in (first_state initiator).owed + 1
    ≡ (first_state initiator).term + yielding (first_state initiator).phase
first_balance true = refl
first_balance false = refl

module _ (n : ℕ) (es : List Event) (st : ℕ → NodeState) (course : IsCourse n es st) where
  -- what each step keeps
  pub kept : (P : NodeState → Type 0) → ((s : NodeState) (e : Event) (t : NodeState) → NodeStep n s e t → P s → P t)
      → (a b : ℕ) → a ≤ b → P (st a) → P (st b)
  kept P on a zero low p = (let z : a ≡ 0 = omega arith in rw z at p)
  kept P on a (suc b) low p = elim (cases_lt b a) [
    | inl here ↦ (let z : a ≡ suc b = omega arith in rw z at p)
    | inr below ↦ elim (slice_get_cases es b).1 [
      | inl more ↦ on (st b) more.0 (st (suc b)) (course.steps b more.0 more.2) (kept P on a b below p)
      | inr end ↦ rw (course.ends b end.0) (kept P on a b below p)
    ]
  ]

  -- the loads of one event more
  loads_more : (load : Event → Option Load) (a : ℕ) (e : Event) → slice_get es a ≡ Some e
      → filter_map load (take (suc a) es) ≡ filter_map load (take a es) ++ cons_option (load e) []
  loads_more load a e at =
      rw (← add-one a) (filter_map_more load es a e (slice_get_within es a e at))
      ∙ ap (λ x. filter_map load (take a es) ++ cons_option (load x) []) (get_or_from_slice_get es a e e at)

  resets_more : (load : Event → Option Load) (a : ℕ) (e : Event) → slice_get es a ≡ Some e
      → resets (filter_map load (take (suc a) es)) ≡ resets (filter_map load (take a es)) + resets_in (load e)
  resets_more load a e at = ap resets (loads_more load a e at) ∙ resets_after (filter_map load (take a es)) (load e)
    where
      resets_after : (ls : List Load) (o : Option Load) → resets (ls ++ cons_option o []) ≡ resets ls + resets_in o
      resets_after [] None = refl
      resets_after [] (Some l) = omega arith
      resets_after (l ∷ ls) o = omega (arith, resets_after ls o)

  pub first_term : (st 0).term ≡ 1
  first_term = ap (λ (x : NodeState). x.term) course.first ∙ first_state_term course.initiator

  -- the term is the number of resets received, and one
  pub term_counted : (a : ℕ) → a ≤ length es → (st a).term ≡ 1 + resets (got (take a es))
  term_counted zero low = first_term
  term_counted (suc a) low = elim (slice_get_cases es a).1 [
    | inl more ↦ omega (
      arith,
      term_counted a (omega arith),
      term_more n (st a) more.0 (st (suc a)) (course.steps a more.0 more.2),
      resets_more receipt a more.0 more.2,
    )
    | inr end ↦ absurd (omega (arith, end.0))
  ]

  pub settled : (a : ℕ) → Settled (st a).phase (st a).owed
  settled a = kept (λ s. Settled s.phase s.owed) (λ s e t step h.
      stays_settled n s e t h step) 0 a (omega arith) (rw course.first (settled_first course.initiator))

  -- and what was sent of resets goes with it
  pub sent_counted : (a : ℕ) → a ≤ length es
      → resets (sent (take a es)) + resets_in (st a).owed + 1 ≡ (st a).term + yielding (st a).phase
  sent_counted zero low = rw course.first (first_balance course.initiator)
  sent_counted (suc a) low = elim (slice_get_cases es a).1 [
    | inl more ↦ balance n (resets (sent (take a es))) (resets (sent (take (suc a) es))) (st a) more.0 (st (suc a))
        (resets_more sending a more.0 more.2) (settled a) (sent_counted a (omega arith)) (course.steps a more.0 more.2)
    | inr end ↦ absurd (omega (arith, end.0))
  ]

  -- the term does not fall
  pub term_kept : (a b : ℕ) → a ≤ b → (st a).term ≤ (st b).term
  term_kept a b low = kept (λ s. (st a).term ≤ s.term) (λ s e t step h.
      omega (arith, term_rises n s e t step, h)) a b low (omega arith)
