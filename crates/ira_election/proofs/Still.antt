-- No run of a ring stands still.
use Rattle.std.proofs.Common.{◌≡◌, ℕ, zero, suc, ◌+◌, ◌-◌, ◌<◌, ◌≤◌, inl, inr, List, [], ◌++◌, refl, sym, ◌∙◌, subst}
use Rattle.std.proofs.Common.{ap, arith}
use Rattle.std.proofs.lemmas.Bool.{cases_lt}
use Rattle.ira_event.specs.declared.load.Load.{Load}
use Rattle.ira_event.specs.declared.msg.Msg.{Msg}
use Rattle.ira_node.specs.declared.node_state.NodeState.{NodeState}
use Rattle.ira_node.specs.declared.phase.Phase.{Phase}
use Rattle.ira_node.specs.declared.phase.Phase.TheVariants.{Choosing, Active, Passive, Leader, Yielding}
use Rattle.ira_node.specs.NodeState.{Receives}
use Rattle.ira_order.specs.Ring.{next}
use Rattle.ira_order.specs.Run.{Configuration}
use Rattle.ira_order.proofs.Runs.{next_up}
use Rattle.ira_safety.specs.Reaches.{beginning}
use Rattle.ira_safety.proofs.Steps.{resets, yielding}
use Rattle.ira_safety.proofs.Terms.{next_home}
use Rattle.ira_election.specs.StandingStill.{NoRunStandsStill, StillWithoutInitiators}
use Rattle.ira_election.proofs.Election.{debt, queue, of_term, messages_of, Has, phase_in, phases_of, IsAtMost, HasRank}
use Rattle.ira_election.proofs.Election.{AreTermsEven, IsOn}
use Rattle.ira_election.proofs.Ranks.{highest}
use Rattle.ira_election.proofs.Turns.{none_of}
use Rattle.ira_election.proofs.Queues.{phase_now}
use Rattle.ira_election.proofs.Past.{run_sound, run_on}
use Rattle.ira_election.proofs.Beginning.{begins_sound, begins_on}

-- a node with a rank that waits is active
waits_active : (p : Phase) (x y : ℕ) → Receives p → HasRank p x y → p ≡ Active x y
waits_active (Choosing r) x y w h = absurd w
waits_active (Active r d) x y w h = (let p : x ≡ r = h.0 in let q : y ≡ d = h.1 in cc)
waits_active (Leader r d) x y w h = absurd w
waits_active Passive x y w h = absurd h
waits_active Yielding x y w h = absurd h

waits_in : (term : ℕ) (s : NodeState) → term ≤ s.term → Receives s.phase → Receives (phase_in term s)
waits_in term s now waits = subst Receives (sym (phase_now term s now)) waits

-- ---- where nothing is on its way all terms are one, and no node yields

module _ (n : ℕ) (c : Configuration) (even : AreTermsEven n c) (empty : (j : ℕ) → j < n → queue c j ≡ []) where
  abbrev term : ℕ → ℕ
  term j = (c.state j).term

  onward : (j : ℕ) → j < n → term (next n j) ≡ term j + yielding (c.state j).phase
  onward j lj = omega (arith, even j lj, ap resets (empty j lj))

  up : (j : ℕ) → j < n → term 0 ≤ term j
  up zero lj = omega arith
  up (suc j) lj =
      let there : next n j ≡ suc j = next_up n j (omega arith) ∙ (let e : j + 1 ≡ suc j = omega arith in e) in
      omega (arith, up j (omega arith), onward j (omega arith), ap term there)

  down : (d j : ℕ) → j + d + 1 ≡ n → term j ≤ term 0
  down zero j is = omega (arith, onward j (omega arith), ap term (next_home n j (omega arith)))
  down (suc d) j is =
      omega (arith, onward j (omega arith), ap term (next_up n j (omega arith)), down d (j + 1) (omega arith))

  pub one_term : (j : ℕ) → j < n → term j ≡ term 0
  one_term j lj = omega (arith, up j lj, down (n - j - 1) j (omega arith))

  pub no_yield : (j : ℕ) → j < n → yielding (c.state j).phase ≡ 0
  no_yield j lj = elim (cases_lt (j + 1) n) [
    | inl more ↦ omega (arith, onward j lj, ap term (next_up n j more), one_term j lj, one_term (j + 1) more)
    | inr top ↦ omega (arith, onward j lj, ap term (next_home n j top), one_term j lj)
  ]

-- where nothing is on its way an election that is on has a node that chooses or leads
not_on : (n term : ℕ) (c : Configuration) → IsOn n term c → ((j : ℕ) → j < n → queue c j ≡ [])
    → ((j : ℕ) → j < n → (c.state j).term ≡ term) → ((j : ℕ) → j < n → Receives (c.state j).phase) → ⊥
not_on n term c on empty all waits =
    let nothing : (j : ℕ) (m : Msg) → j < n → Has (messages_of n term c j) m → ⊥ = λ j m lj.
    none_of m (messages_of n term c j) (ap (of_term term (c.state (next n j)).term) (empty j lj)) in
    let some = on.alive.some in
    let w = highest n (phases_of term c) some.0 some.1 some.2 some.3 n (omega arith) in
    let la = w.ranks.place in
    let waiting : Receives (phase_in term (c.state w.a)) =
    waits_in term (c.state w.a) (omega (arith, all w.a la)) (waits w.a la) in
    let own = on.alive.own w.a w.x w.y la (waits_active (phase_in term (c.state w.a)) w.x w.y waiting w.ranks.rank)
    (record {
      messages = λ j m lj h. absurd {A = IsAtMost m.round m.id w.x w.y} (nothing j m lj h);
      nodes = λ j u v h. w.above j u v h.place h.rank;
    }) in
    nothing own.i own.m own.place own.has

pub no_run_stands_still : NoRunStandsStill
no_run_stands_still n initiators run c k two reaches lk is still =
    let empty : (j : ℕ) → j < n → queue c j ≡ [] = λ j lj.
    ap (λ (ls : List Load). ls ++ debt (c.state j).owed) (still.empty j lj) ∙ ap debt (still.owes j lj) in
    let first = begins_sound n initiators in
    let sound = run_sound n run (beginning initiators) c two reaches first in
    let term = (c.state 0).term in
    let all = one_term n c sound.even empty in
    elim (run_on n term run (beginning initiators) c two reaches first
    (inl (begins_on n term initiators k (sound.positive 0 (omega arith)) lk is))) [
      | inl on ↦ not_on n term c on empty all still.waits
      | inr past ↦ elim past.1.own [
        | inl over ↦ omega (arith, all past.0 past.1.place)
        | inr gave ↦ omega (arith, no_yield n c sound.even empty past.0 past.1.place, ap yielding gave.1)
      ]
    ]

pub still_without_initiators : StillWithoutInitiators
still_without_initiators n = record { owes = λ i li. refl; waits = λ i li. tt; empty = λ i li. refl }
