-- Where a node leads its election is over.
use Rattle.std.proofs.Common.{◌≡◌, ◌≢◌, ℕ, ◌<◌, inl, inr, Bool, true, false, List, [], ◌++◌, Option, Some, None}
use Rattle.std.proofs.Common.{length, refl, ◌∙◌, subst, ap, arith, length-append}
use Rattle.std.proofs.lemmas.Bool.{cases_eq}
use Rattle.ira_event.specs.declared.load.Load.{Load}
use Rattle.ira_node.specs.declared.phase.Phase.TheVariants.{Passive}
use Rattle.ira_node.specs.NodeState.{first_state, IsLeader}
use Rattle.ira_order.specs.Ring.{next}
use Rattle.ira_order.specs.Run.{Configuration}
use Rattle.ira_order.proofs.Ranks.{next_below}
use Rattle.ira_safety.specs.Reaches.{beginning}
use Rattle.ira_election.specs.Ending.{IsOver, LeadersEndElections}
use Rattle.ira_election.proofs.Election.{debt, queue, IsOn, IsOnOrPast}
use Rattle.ira_election.proofs.Queues.{phase_now, of_nothing}
use Rattle.ira_election.proofs.Keeps.{IsSound}
use Rattle.ira_election.proofs.Past.{leader_pair, passive_in, none_first, run_sound}
use Rattle.ira_election.proofs.Beginning.{begins_sound, none_or_on}

no_first_leader : (b : Bool) → IsLeader (first_state b).phase → ⊥
no_first_leader true l = l
no_first_leader false l = l

no_debt : (xs : List Load) (o : Option Load) → xs ++ debt o ≡ [] → o ≡ None
no_debt xs None e = refl
no_debt xs (Some l) e = absurd (omega (arith, ap length e, length-append xs (debt (Some l))))

module _ (n i : ℕ) (c : Configuration) (li : i < n) (leads : IsLeader (c.state i).phase) (sound : IsSound n c) where
  -- a term in which a node leads isn't past
  is_on : IsOnOrPast n (c.state i).term c → IsOn n (c.state i).term c
  is_on (inl on) = on
  is_on (inr past) = absurd (elim (cases_eq i past.0) [
    | inl q ↦ elim past.1.own [
      | inl over ↦ omega (arith, ap (λ (k : ℕ). (c.state k).term) q)
      | inr here ↦ subst IsLeader here.1 (subst (λ (k : ℕ). IsLeader (c.state k).phase) q leads)
    ]
    | inr ne ↦ elim (past.1.others i li ne) [
      | inl over ↦ omega arith
      | inr here ↦ subst IsLeader here.1 leads
    ]
  ])

  is_over : IsOn n (c.state i).term c → IsOver n i c
  is_over on =
      let pair = leader_pair (c.state i).phase leads in
      let over = on.orderly.ends i pair.0 pair.1 li (phase_now (c.state i).term (c.state i) (omega arith) ∙ pair.2) in
      let passive : (j : ℕ) → j < n → j ≢ i → ((c.state j).term ≡ (c.state i).term) × ((c.state j).phase ≡ Passive) =
      λ j lj ne. passive_in (c.state i).term (c.state j) (on.within.terms j lj) (over.others j lj ne) in
      let terms : (j : ℕ) → j < n → (c.state j).term ≡ (c.state i).term = λ j lj. elim (cases_eq j i) [
        | inl same ↦ ap (λ (k : ℕ). (c.state k).term) same
        | inr ne ↦ (passive j lj ne).0
      ] in
      let empty : (j : ℕ) → j < n → queue c j ≡ [] = λ j lj.
      of_nothing (c.state i).term (c.state (next n j)).term (queue c j) (terms (next n j) (next_below n j lj))
      (omega (
        arith,
        sound.even j lj,
        on.within.none_yields j lj (terms j lj),
        terms j lj,
        terms (next n j) (next_below n j lj),
      )) (over.empty j lj) in
      record {
        empty = λ j lj. none_first (c.link j) (debt (c.state j).owed) (empty j lj);
        owes = λ j lj. no_debt (c.link j) (c.state j).owed (empty j lj);
        term = terms;
        passive = λ j lj ne. (passive j lj ne).1;
      }

pub leaders_end_elections : LeadersEndElections
leaders_end_elections n initiators run c i two reaches li leads =
    let sound = run_sound n run (beginning initiators) c two reaches (begins_sound n initiators) in
    elim (none_or_on n initiators run c two reaches) [
      | inl same ↦ absurd (no_first_leader (initiators i)
          (subst (λ (x : Configuration). IsLeader (x.state i).phase) same leads))
      | inr on ↦ is_over n i c li leads sound (is_on n i c li leads sound (on (c.state i).term (sound.positive i li)))
    ]
