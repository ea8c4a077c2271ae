-- Each ring step is a turn in the election of a term that no node is past, and in which none yields, or isn't seen in
-- it.
use Rattle.std.proofs.Common.{◌≡◌, ◌≢◌, ℕ, ◌+◌, ◌<◌, ◌≤◌, ◌⊎◌, inl, inr, Some, None, refl, sym, ◌∙◌, subst, ap}
use Rattle.std.proofs.Common.{List, [], ◌∷◌, ◌++◌, append-nil, arith}
use Rattle.std.proofs.lemmas.Bool.{cases_eq, cases_lt}
use Rattle.ira_event.specs.declared.event.Event.{Event}
use Rattle.ira_event.specs.declared.load.Load.TheVariants.{Msg as Message}
use Rattle.ira_event.specs.declared.msg.Msg.{Msg}
use Rattle.ira_event.specs.Messages.{receipt}
use Rattle.ira_node.specs.declared.node_state.NodeState.{NodeState}
use Rattle.ira_node.specs.declared.phase.Phase.{Phase}
use Rattle.ira_node.specs.declared.phase.Phase.TheVariants.{Choosing, Active, Passive, Leader}
use Rattle.ira_node.specs.Msg.{first_message, raised, dirtied}
use Rattle.ira_node.specs.NodeStep.{NodeStep, sends, draws, passes, gives_in, purges, meets, ties, wins, yields}
use Rattle.ira_node.specs.NodeStep.{restarts, comes_home}
use Rattle.ira_order.specs.Ring.{prev, next}
use Rattle.ira_order.specs.Run.{Configuration, RingStep}
use Rattle.ira_safety.proofs.Steps.{Settled, stays_settled, resets, yielding, phase_is, term_is}
use Rattle.ira_election.proofs.Election.{debt, queue, of_term, messages_of, phase_in, phases_of, AreTermsEven}
use Rattle.ira_election.proofs.Election.{IsWithin, IsOn}
use Rattle.ira_election.proofs.Turns.{Turn, turn_draw, turn_pass, turn_give, turn_meet, turn_purge, turn_tie}
use Rattle.ira_election.proofs.Turns.{turn_win, IsRaised, Moves, HasTurn, IsUnseen}
use Rattle.ira_election.proofs.Alive.{changes, unseen, kept, lower}
use Rattle.ira_election.proofs.Orderly.{turn_keeps, same_orderly}
use Rattle.ira_election.proofs.Guards.{guard_keeps, same_guarded}
use Rattle.ira_election.proofs.Queues.{owed_is, phase_before, phase_now, moves, step_terms, of_one, of_none}
use Rattle.ira_election.proofs.Queues.{moved, stay_even, not_message, not_reset}

-- ---- what holds in all terms

pub record IsSound (n : ℕ) (c : Configuration) : Type 0 where
  pub settled : (j : ℕ) → j < n → Settled (c.state j).phase (c.state j).owed
  pub positive : (j : ℕ) → j < n → 1 ≤ (c.state j).term
  pub even : AreTermsEven n c

pub stays_sound : (n i : ℕ) (e : Event) (c d : Configuration) → 2 ≤ n → RingStep n i e c d → IsSound n c → IsSound n d
stays_sound n i e c d two step sound =
    let terms = step_terms n (c.state i) e (d.state i) step.node in
    record {
      settled = λ j lj. elim (cases_eq j i) [
        | inl same ↦ subst (λ (k : ℕ). Settled (d.state k).phase (d.state k).owed) (sym same)
            (stays_settled n (c.state i) e (d.state i) (sound.settled i step.place) step.node)
        | inr ne ↦ subst (λ (s : NodeState). Settled s.phase s.owed) (sym (step.others j lj ne)) (sound.settled j lj)
      ];
      positive = λ j lj. elim (cases_eq j i) [
        | inl same ↦ subst (λ (k : ℕ). 1 ≤ (d.state k).term) (sym same)
            (omega (arith, terms.0, sound.positive i step.place))
        | inr ne ↦ subst (λ (s : NodeState). 1 ≤ s.term) (sym (step.others j lj ne)) (sound.positive j lj)
      ];
      even = stay_even n two i step.place c d step.others (receipt e) (d.state i).owed
          (moves n two i step.place c d step.others e step (sound.settled i step.place)) terms.0 terms.1 sound.even;
    }

-- ---- one step

module _ (n i term : ℕ) (two : 2 ≤ n) (e : Event) (c d : Configuration) (step : RingStep n i e c d)
    (sound : IsSound n c)
    (within : IsWithin n term d) where
  abbrev P : ℕ → Phase
  P = phases_of term c

  abbrev P' : ℕ → Phase
  P' = phases_of term d

  -- the term of what comes last on the node's own queue
  abbrev last : ℕ
  last = (c.state (next n i)).term + resets (queue c i)

  last_is : last ≡ (c.state i).term + yielding (c.state i).phase
  last_is = sound.even i step.place

  -- what it receives and what it comes to owe of the term
  abbrev taken : List Msg
  taken = of_term term (c.state i).term (debt (receipt e))

  abbrev put : List Msg
  put = of_term term last (debt (d.state i).owed)

  -- the node is in the term, in a phase in which it doesn't yield, and stays in the term
  record IsNow (p q : Phase) : Type 0 where
    now : (c.state i).term ≡ term
    old : P i ≡ p
    new : P' i ≡ q
    ends : last ≡ term

  now_or_before : (p q : Phase) → (c.state i).phase ≡ p → (d.state i).phase ≡ q → yielding p ≡ 0
      → (d.state i).term ≡ (c.state i).term → IsNow p q ⊎ ((c.state i).term < term)
  now_or_before p q old new none same =
      elim (cases_eq (c.state i).term term) [
        | inl now ↦ inl (record {
          now = now;
          old = phase_now term (c.state i) (omega arith) ∙ old;
          new = phase_now term (d.state i) (omega arith) ∙ new;
          ends = omega (arith, last_is, ap yielding old);
        })
        | inr ne ↦ inr (below (c.state i).term term (omega (arith, within.terms i step.place)) ne)
      ]
    where
      below : (a b : ℕ) → a ≤ b → a ≢ b → a < b
      below a b low ne = omega arith

  -- a node that has begun the term's election, or hasn't, in its first round
  first : (d.state i).phase ≡ Choosing 1 → P' i ≡ Choosing 1
  first is = elim (cases_lt (d.state i).term term) [
    | inl low ↦ phase_before term (d.state i) low
    | inr now ↦ phase_now term (d.state i) now ∙ is
  ]

  -- it has none: its phase there stays, and it receives and owes nothing of the term
  record HasNone : Type 0 where
    same : P' i ≡ P i
    takes : taken ≡ []
    puts : put ≡ []

  none_early : (c.state i).term < term → (d.state i).term ≡ (c.state i).term → yielding (c.state i).phase ≡ 0 → HasNone
  none_early low same none = record {
    same = phase_before term (d.state i) (omega arith) ∙ sym (phase_before term (c.state i) low);
    takes = of_none term (c.state i).term (receipt e) (λ m h now. omega arith);
    puts = of_none term last (d.state i).owed (λ m h now. omega (arith, last_is));
  }

  turn_or : (p q : Phase) → (c.state i).phase ≡ p → (d.state i).phase ≡ q → yielding p ≡ 0
      → (d.state i).term ≡ (c.state i).term → (IsNow p q → Turn n (P i) (P' i) taken put)
      → HasNone ⊎ Turn n (P i) (P' i) taken put
  turn_or p q old new none same turn = elim (now_or_before p q old new none same) [
    | inl now ↦ inr (turn now)
    | inr low ↦ inl (none_early low same (ap yielding old ∙ none))
  ]

  takes_one : (p q : Phase) (m : Msg) → IsNow p q → receipt e ≡ Some (Message m) → taken ≡ m ∷ []
  takes_one p q m at is = of_one term (c.state i).term (receipt e) m is at.now

  puts_one : (p q : Phase) (m : Msg) → IsNow p q → (d.state i).owed ≡ Some (Message m) → put ≡ m ∷ []
  puts_one p q m at is = of_one term last (d.state i).owed m is at.ends

  puts_none : (d.state i).owed ≡ None → put ≡ []
  puts_none is = of_none term last (d.state i).owed (λ m h now. not_message (d.state i).owed m is h)

  takes_none : receipt e ≡ None → taken ≡ []
  takes_none is = of_none term (c.state i).term (receipt e) (λ m h now. not_message (receipt e) m is h)

  raises : (m : Msg) → IsRaised m (raised m)
  raises m = record { round = refl; id = refl; hop = refl; clean = λ e. e }

  dirties : (m : Msg) → IsRaised m (dirtied m)
  dirties m = record { round = refl; id = refl; hop = refl; clean = λ e. absurd (let w : ⊥ = cc in w) }

  turn_by : NodeStep n (c.state i) e (d.state i) → HasNone ⊎ Turn n (P i) (P' i) taken put
  turn_by (sends l runs o ee et) = inl (record {
    same = ap (phase_in term) et;
    takes = takes_none (ap receipt ee);
    puts = puts_none (owed_is (d.state i) _ et);
  })
  turn_by (draws t round id es ee lo hi et) =
      turn_or (Choosing round) (Active round id) (phase_is (c.state i) _ es) (phase_is (d.state i) _ et) refl
      (term_is (d.state i) _ et ∙ sym (term_is (c.state i) _ es)) (λ at.
      turn_draw round id (first_message round id) at.old at.new (takes_none (ap receipt ee))
      (puts_one (Choosing round) (Active round id) (first_message round id) at (owed_is
      (d.state i) _ et)) refl refl refl refl)
  turn_by (passes t m es ee h et) =
      turn_or Passive Passive (phase_is (c.state i) _ es) (phase_is (d.state i) _ et) refl
      (term_is (d.state i) _ et ∙ sym (term_is (c.state i) _ es)) (λ at.
      turn_pass m (raised m) at.old at.new (takes_one Passive Passive m at (ap receipt ee))
      (puts_one Passive Passive (raised m) at (owed_is (d.state i) _ et)) (raises m) (λ e. e))
  turn_by (gives_in t round id m es ee g h et) =
      turn_or (Active round id) Passive (phase_is (c.state i) _ es) (phase_is (d.state i) _ et) refl
      (term_is (d.state i) _ et ∙ sym (term_is (c.state i) _ es)) (λ at.
      turn_give round id m (raised m) at.old at.new g (takes_one (Active round id) Passive m at (ap receipt ee))
      (puts_one (Active round id) Passive (raised m) at (owed_is (d.state i) _ et)) (raises m) (λ e. e))
  turn_by (purges t round id m es ee g et) =
      turn_or (Active round id) (Active round id) (phase_is (c.state i) _ es)
      (phase_is (d.state i) _ et ∙ phase_is (c.state i) _ es) refl (term_is (d.state i) _ et) (λ at.
      turn_purge round id m at.old at.new g (takes_one (Active round id) (Active round id) m at (ap receipt ee))
      (puts_none (owed_is (d.state i) _ et ∙ owed_is (c.state i) _ es)))
  turn_by (meets t round id m es ee g h k et) =
      turn_or (Active round id) (Active round id) (phase_is (c.state i) _ es) (phase_is (d.state i) _ et) refl
      (term_is (d.state i) _ et ∙ sym (term_is (c.state i) _ es)) (λ at.
      turn_meet round id m (dirtied m) at.old at.new g h
      (takes_one (Active round id) (Active round id) m at (ap receipt ee))
      (puts_one (Active round id) (Active round id) (dirtied m) at (owed_is (d.state i) _ et)) (dirties m) refl)
  turn_by (ties t round id m es ee g h k j et) =
      turn_or (Active round id) (Choosing (round + 1)) (phase_is (c.state i) _ es) (phase_is (d.state i) _ et) refl
      (term_is (d.state i) _ et ∙ sym (term_is (c.state i) _ es)) (λ at.
      turn_tie round id m at.old at.new g h k (takes_one (Active round id) (Choosing (round + 1)) m at (ap receipt ee))
      (puts_none (owed_is (d.state i) _ et)))
  turn_by (wins t round id m es ee g h k et) =
      turn_or (Active round id) (Leader round id) (phase_is (c.state i) _ es) (phase_is (d.state i) _ et) refl
      (term_is (d.state i) _ et ∙ sym (term_is (c.state i) _ es)) (λ at.
      turn_win round id m at.old at.new g h k (takes_one (Active round id) (Leader round id) m at (ap receipt ee))
      (puts_none (owed_is (d.state i) _ et)))
  turn_by (yields runs ee low et) =
      let same : (d.state i).term ≡ (c.state i).term = term_is (d.state i) _ et in
      let early : (c.state i).term < term = elim (cases_eq (d.state i).term term) [
        | inl now ↦ absurd (omega (arith, within.none_yields i step.place now, ap yielding (phase_is (d.state i) _ et)))
        | inr ne ↦ omega (arith, within.terms i step.place)
      ] in
      inl (record {
        same = phase_before term (d.state i) (omega arith) ∙ sym (phase_before term (c.state i) early);
        takes = takes_none (ap receipt ee);
        puts = of_none term last (d.state i).owed (λ m h now.
            not_reset (d.state i).owed 1 m (owed_is (d.state i) _ et) h);
      })
  turn_by (restarts t h es ee below low et) =
      let old : (c.state i).term ≡ t = term_is (c.state i) _ es in
      let new : (d.state i).term ≡ t + 1 = term_is (d.state i) _ et in
      let top = within.terms i step.place in
      inl (record {
        same = first (phase_is (d.state i) _ et) ∙ sym (phase_before term (c.state i) (omega arith));
        takes = of_none term (c.state i).term (receipt e) (λ m k now. not_reset (receipt e) h m (ap receipt ee) k);
        puts = of_none term last (d.state i).owed (λ m k now.
            not_reset (d.state i).owed (h + 1) m (owed_is (d.state i) _ et) k);
      })
  turn_by (comes_home t es ee low et) =
      let old : (c.state i).term ≡ t = term_is (c.state i) _ es in
      let new : (d.state i).term ≡ t + 1 = term_is (d.state i) _ et in
      let top = within.terms i step.place in
      inl (record {
        same = first (phase_is (d.state i) _ et) ∙ sym (phase_before term (c.state i) (omega arith));
        takes = of_none term (c.state i).term (receipt e) (λ m k now. not_reset (receipt e) n m (ap receipt ee) k);
        puts = puts_none (owed_is (d.state i) _ et);
      })

  -- ---- what it is in the election

  others : (j : ℕ) → j < n → j ≢ i → P' j ≡ P j
  others j lj ne = ap (phase_in term) (step.others j lj ne)

  in_term : Moves n i (messages_of n term c) (messages_of n term d) taken put
  in_term = moved n two i step.place c d step.others (receipt e) (d.state i).owed
      (moves n two i step.place c d step.others e step (sound.settled i step.place))
      (step_terms n (c.state i) e (d.state i) step.node).0 term

  pub seen : HasTurn n i P P' (messages_of n term c) (messages_of n term d)
      ⊎ IsUnseen n P P' (messages_of n term c) (messages_of n term d)
  seen = elim (turn_by step.node) [
    | inr turn ↦ inl (record {
      two = two;
      li = step.place;
      taken = taken;
      put = put;
      turn = turn;
      others = others;
      moves = in_term;
    })
    | inl none ↦ inr (record {
      phases = λ j lj. elim (cases_eq j i) [
        | inl q ↦ subst (λ (k : ℕ). P' k ≡ P k) (sym q) none.same
        | inr ne ↦ others j lj ne
      ];
      queues = λ j lj. elim (cases_eq j i) [
        | inl q ↦ subst (λ (k : ℕ). messages_of n term d k ≡ messages_of n term c k) (sym q) (in_term.puts
            ∙ ap (λ (ms : List Msg). messages_of n term c i ++ ms) none.puts ∙ append-nil (messages_of n term c i))
        | inr ne ↦ elim (cases_eq j (prev n i)) [
          | inl q ↦ subst (λ (k : ℕ). messages_of n term d k ≡ messages_of n term c k) (sym q)
              (sym (in_term.gets ∙ ap (λ (ms : List Msg). ms ++ messages_of n term d (prev n i)) none.takes))
          | inr far ↦ in_term.rest j lj ne far
        ]
      ];
    })
  ]

  pub keeps_on : IsOn n term c → IsOn n term d
  keeps_on on = elim seen [
    | inl turn ↦
        let change = changes turn on.alive in
        let alive = kept change on.alive in
        record {
          within = within;
          alive = alive;
          orderly = turn_keeps turn (lower change) on.orderly on.alive;
          guarded = guard_keeps turn alive on.guarded;
        }
    | inr same ↦
        let change = unseen n P P' (messages_of n term c) (messages_of n term d) same on.alive in
        record {
          within = within;
          alive = kept change on.alive;
          orderly = same_orderly n P P' (messages_of n term c) (messages_of n term d) same (lower change) on.orderly;
          guarded = same_guarded n P P' (messages_of n term c) (messages_of n term d) same on.guarded;
        }
  ]
