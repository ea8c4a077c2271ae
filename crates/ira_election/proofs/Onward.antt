-- A run goes on from each configuration that it comes to.
use Rattle.std.proofs.Common.{◌≡◌, ◌≢◌, ℕ, ◌<◌, ◌≤◌, ◌⊎◌, ◌==◌, cond, inl, inr, List, [], ◌∷◌, ◌++◌}
use Rattle.std.proofs.Common.{Option, Some, None, refl, sym, ◌∙◌, subst, ap, arith}
use Rattle.std.proofs.lemmas.Bool.{eq-eqb, ne_eqb}
use Rattle.ira_event.specs.declared.event.Event.{Event}
use Rattle.ira_event.specs.declared.event.Event.TheVariants.{Draw, Sent, Got}
use Rattle.ira_event.specs.declared.load.Load.{Load}
use Rattle.ira_node.specs.declared.node_state.NodeState.{NodeState}
use Rattle.ira_node.specs.declared.phase.Phase.{Phase}
use Rattle.ira_node.specs.declared.phase.Phase.TheVariants.{Choosing, Active, Passive, Leader, Yielding}
use Rattle.ira_node.specs.NodeState.{Receives, IsLeader}
use Rattle.ira_node.specs.NodeStep.{NodeStep, sends, draws}
use Rattle.ira_order.specs.Ring.{next, prev}
use Rattle.ira_order.specs.Run.{Configuration, LinkStep}
use Rattle.ira_order.proofs.Ranks.{next_below}
use Rattle.ira_order.proofs.Runs.{prev_next}
use Rattle.ira_election.specs.GoingOn.{HasEnded, HasRingStep, HasLimit, RunsGoOn}
use Rattle.ira_election.proofs.Beginning.{all_or_one}
use Rattle.ira_election.proofs.Ending.{leaders_end_elections}
use Rattle.ira_election.proofs.Going.{put_at, put_yes, put_no}
use Rattle.ira_election.proofs.Loads.{free_is, loads_have_steps}
use Rattle.ira_election.proofs.Still.{no_run_stands_still}

-- ---- one node more is in another state

set_state : ℕ → NodeState → (ℕ → NodeState) → ℕ → NodeState
set_state i s old j = cond (i == j) s (old j)

set_yes : (i : ℕ) (s : NodeState) (old : ℕ → NodeState) → set_state i s old i ≡ s
unfolding set_state
set_yes i s old = rw (eq-eqb i i refl) refl

set_no : (i : ℕ) (s : NodeState) (old : ℕ → NodeState) (j : ℕ) → j ≢ i → set_state i s old j ≡ old j
unfolding set_state
set_no i s old j ne = rw (ne_eqb i j (λ e. ne (sym e))) refl

module _ (n : ℕ) (c : Configuration) where
  ring_step : (i : ℕ) (e : Event) (t : NodeState) (new : ℕ → List Load) → i < n → NodeStep n (c.state i) e t
      → LinkStep n i e c.link new → HasRingStep n c
  ring_step i e t new li node links = record {
    i = i;
    event = e;
    next = record { state = set_state i t c.state; link = new };
    step = record {
      place = li;
      node = subst (λ (s : NodeState). NodeStep n (c.state i) e s) (sym (set_yes i t c.state)) node;
      others = λ j lj ne. set_no i t c.state j ne;
      links = links;
    };
  }

  -- a node leads, or the ring has a step or meets a limit, or the node is still, and its own link holds nothing
  data Does (k : ℕ) : Type 0 where
    does_lead : (i : ℕ) → i < n → IsLeader (c.state i).phase → Does k
    does_step : HasRingStep n c → Does k
    does_limit : HasLimit n c → Does k

  abbrev Rests : ℕ → Type 0
  Rests k = ((c.state k).owed ≡ None) × Receives (c.state k).phase × (c.link k ≡ [])

  module _ (two : 2 ≤ n) (answers : (i : ℕ) (l : Load) (ls : List Load) → i < n → (c.state i).owed ≡ None
      → Receives (c.state i).phase → c.link (prev n i) ≡ l ∷ ls
      → ((t : NodeState) × NodeStep n (c.state i) (Got l) t) ⊎ HasLimit n c) where
    -- what a node does by itself
    alone : (i : ℕ) → i < n → (((c.state i).owed ≡ None) × Receives (c.state i).phase) ⊎ Does i
    alone i li = by_owed (c.state i).owed refl
      where
        by_phase : (c.state i).owed ≡ None → (p : Phase) → (c.state i).phase ≡ p
            → (((c.state i).owed ≡ None) × Receives (c.state i).phase) ⊎ Does i
        by_phase none (Choosing r) is = inr (does_step (ring_step i (Draw 1) _ c.link li
            (draws (c.state i).term r 1 (free_is (c.state i) (Choosing r) none is) refl (omega arith)
            (omega arith) refl)
            (λ j lj. refl)))
        by_phase none (Active r d) is = inl (none, subst Receives (sym is) tt)
        by_phase none Passive is = inl (none, subst Receives (sym is) tt)
        by_phase none (Leader r d) is = inr (does_lead i li (subst IsLeader (sym is) tt))
        by_phase none Yielding is = inl (none, subst Receives (sym is) tt)

        not_leader : (p : Phase) → IsLeader p ⊎ (IsLeader p → ⊥)
        not_leader (Choosing r) = inr (λ l. l)
        not_leader (Active r d) = inr (λ l. l)
        not_leader Passive = inr (λ l. l)
        not_leader (Leader r d) = inl tt
        not_leader Yielding = inr (λ l. l)

        by_owed : (o : Option Load) → (c.state i).owed ≡ o
            → (((c.state i).owed ≡ None) × Receives (c.state i).phase) ⊎ Does i
        by_owed None is = by_phase is (c.state i).phase refl
        by_owed (Some l) is = elim (not_leader (c.state i).phase) [
          | inl leads ↦ inr (does_lead i li leads)
          | inr other ↦ inr (does_step (ring_step i (Sent l) _ (put_at i (c.link i ++ l ∷ []) c.link) li
              (sends l other is refl refl)
              (put_yes i (c.link i ++ l ∷ []) c.link, λ j lj ne. put_no i (c.link i ++ l ∷ []) c.link j ne)))
        ]

    does_or_rests : (k : ℕ) → k < n → Rests k ⊎ Does k
    does_or_rests k lk = elim (alone k lk) [
      | inr does ↦ inr does
      | inl here ↦ elim (alone (next n k) (next_below n k lk)) [
        | inr (does_lead i li leads) ↦ inr (does_lead i li leads)
        | inr (does_step step) ↦ inr (does_step step)
        | inr (does_limit limit) ↦ inr (does_limit limit)
        | inl there ↦ by_link here there (c.link k) refl
      ]
    ]
      where
        by_link : (((c.state k).owed ≡ None) × Receives (c.state k).phase)
            → (((c.state (next n k)).owed ≡ None) × Receives (c.state (next n k)).phase)
            → (ls : List Load) → c.link k ≡ ls → Rests k ⊎ Does k
        by_link here there [] link = inl (here.0, here.1, link)
        by_link here there (l ∷ ls) link =
            let i = next n k in
            let li = next_below n k lk in
            let back : prev n (next n k) ≡ k = sym (prev_next n (next n k) k li lk refl) in
            let first : c.link (prev n i) ≡ l ∷ ls = subst (λ (x : ℕ). c.link x ≡ l ∷ ls) (sym back) link in
            elim (answers i l ls li there.0 there.1 first) [
              | inr limit ↦ inr (does_limit limit)
              | inl step ↦ inr (does_step (ring_step i (Got l) step.0 (put_at (prev n i) ls c.link) li step.1 (
                first ∙ ap (λ (xs : List Load). l ∷ xs) (sym (put_yes (prev n i) ls c.link)),
                λ j lj ne. put_no (prev n i) ls c.link j ne,
              )))
            ]

pub runs_go_on : RunsGoOn
runs_go_on n initiators run c k two reaches lk is =
    elim (all_or_one (Rests n c) (Does n c) n (does_or_rests n c two answers)) [
      | inl rest ↦ absurd (no_run_stands_still n initiators run c k two reaches lk is (record {
        owes = λ j lj. (rest j lj).0;
        waits = λ j lj. (rest j lj).1;
        empty = λ j lj. (rest j lj).2;
      }))
      | inr some ↦ by_does some.0 some.2
    ]
  where
    answers : (i : ℕ) (l : Load) (ls : List Load) → i < n → (c.state i).owed ≡ None → Receives (c.state i).phase
        → c.link (prev n i) ≡ l ∷ ls → ((t : NodeState) × NodeStep n (c.state i) (Got l) t) ⊎ HasLimit n c
    answers i l ls li owes waits link = elim
        (loads_have_steps n initiators run c i l ls two reaches li owes waits link) [
          | inl step ↦ inl step
          | inr past ↦ inr (record {
            i = i;
            place = li;
            owes = owes;
            waits = waits;
            load = l;
            rest = ls;
            link = link;
            past = past;
          })
        ]

    by_does : (j : ℕ) → Does n c j → HasEnded n c ⊎ (HasRingStep n c ⊎ HasLimit n c)
    by_does j (does_lead i li leads) = inl (record {
      i = i;
      place = li;
      leads = leads;
      over = leaders_end_elections n initiators run c i two reaches li leads;
    })
    by_does j (does_step step) = inr (inl step)
    by_does j (does_limit limit) = inr (inr limit)
