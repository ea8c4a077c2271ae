-- What stands first on a link has a step at a node that waits, limits aside.
use Rattle.std.proofs.Common.{◌≡◌, ℕ, ◌+◌, ◌<◌, ◌≤◌, ◌⊎◌, inl, inr, List, [], ◌∷◌, ◌++◌, Option, None, refl, sym, ◌∙◌}
use Rattle.std.proofs.Common.{subst, ap, arith}
use Rattle.std.proofs.lemmas.Bool.{cases_eq, cases_lt}
use Rattle.ira_event.specs.Limits.{MAX_NUMBER}
use Rattle.ira_event.specs.declared.event.Event.TheVariants.{Got}
use Rattle.ira_event.specs.declared.load.Load.{Load}
use Rattle.ira_event.specs.declared.load.Load.TheVariants.{Msg as Message, Reset}
use Rattle.ira_event.specs.declared.msg.Msg.{Msg}
use Rattle.ira_node.specs.declared.node_state.NodeState.{NodeState}
use Rattle.ira_node.specs.declared.phase.Phase.{Phase}
use Rattle.ira_node.specs.declared.phase.Phase.TheVariants.{Choosing, Active, Passive, Leader, Yielding}
use Rattle.ira_node.specs.Msg.{raised, dirtied, IsGreater, IsLess, IsEqual}
use Rattle.ira_node.specs.NodeState.{free, owing, Receives}
use Rattle.ira_node.specs.NodeStep.{HasStep, passes, gives_in, purges, meets, ties, wins, restarts, comes_home}
use Rattle.ira_order.specs.Ring.{next, prev}
use Rattle.ira_order.specs.Run.{Configuration}
use Rattle.ira_order.proofs.Runs.{next_prev, prev_below}
use Rattle.ira_safety.specs.Reaches.{beginning}
use Rattle.ira_safety.proofs.Steps.{resets, yielding, phase_is}
use Rattle.ira_election.specs.GoingOn.{IsPastLimits, LoadsHaveSteps}
use Rattle.ira_election.proofs.Election.{debt, queue, of_term, messages_of, IsAt, IsUnderWay, IsResetOn, IsOnOrPast}
use Rattle.ira_election.proofs.Turns.{at_home, home_at, one_hop, has_split}
use Rattle.ira_election.proofs.Queues.{of_head}
use Rattle.ira_election.proofs.Keeps.{IsSound}
use Rattle.ira_election.proofs.Past.{sends_within, run_sound}
use Rattle.ira_election.proofs.Beginning.{initiator_or, begins_sound, none_or_on}

-- ---- one node

pair_or : (m : Msg) (r d : ℕ) → IsGreater m r d ⊎ (IsLess m r d ⊎ IsEqual m r d)
pair_or m r d = elim (cases_lt r m.round) [
  | inl more ↦ inl (inl more)
  | inr low ↦ elim (cases_lt m.round r) [
    | inl less ↦ inr (inl (inl less))
    | inr high ↦ elim (cases_lt d m.id) [
      | inl more ↦ inl (inr (omega arith, more))
      | inr least ↦ elim (cases_lt m.id d) [
        | inl less ↦ inr (inl (inr (omega arith, less)))
        | inr most ↦ inr (inr (omega arith, omega arith))
      ]
    ]
  ]
]

pub free_is : (s : NodeState) (p : Phase) → s.owed ≡ None → s.phase ≡ p → s ≡ free s.term p
free_is s p owes is =
    let now : s ≡ free s.term s.phase =
    ap (λ (o : Option Load). record { phase = s.phase; owed = o; term = s.term }) owes in
    now ∙ ap (free s.term) is

-- a message that hasn't gone further than the whole way
message_step : (n : ℕ) (s : NodeState) (m : Msg) (p : Phase) → s ≡ free s.term p → Receives p → (p ≡ Yielding → ⊥)
    → m.hop ≤ n → HasStep n s (Got (Message m)) ⊎ IsPastLimits n s (Message m)
message_step n s m (Choosing r) is waits none low = absurd waits
message_step n s m (Leader r d) is waits none low = absurd waits
message_step n s m Yielding is waits none low = absurd (none refl)
message_step n s m Passive is waits none low = elim (cases_lt m.hop MAX_NUMBER) [
  | inl fits ↦ inl (owing s.term Passive (Message (raised m)), passes s.term m is refl fits refl)
  | inr past ↦ inr (inl (past, low))
]
message_step n s m (Active r d) is waits none low = elim (pair_or m r d) [
  | inl more ↦ elim (cases_lt m.hop MAX_NUMBER) [
    | inl fits ↦ inl (owing s.term Passive (Message (raised m)), gives_in s.term r d m is refl more fits refl)
    | inr past ↦ inr (inl (past, low))
  ]
  | inr rest ↦ elim rest [
    | inl less ↦ inl (s, purges s.term r d m is refl less refl)
    | inr same ↦ elim (cases_lt m.hop n) [
      | inl short ↦ elim (cases_lt m.hop MAX_NUMBER) [
        | inl fits ↦ inl (
          owing s.term (Active r d) (Message (dirtied m)),
          meets s.term r d m is refl same short fits refl,
        )
        | inr past ↦ inr (inl (past, low))
      ]
      | inr whole ↦
          let home : m.hop ≡ n = omega arith in
          elim (initiator_or m.dirty) [
            | inl clean ↦ inl (free s.term (Leader r d), wins s.term r d m is refl same home clean refl)
            | inr dirt ↦ elim (cases_lt r MAX_NUMBER) [
              | inl fits ↦ inl (free s.term (Choosing (r + 1)), ties s.term r d m is refl same home dirt fits refl)
              | inr past ↦ inr (inr (
                subst (λ (x : ℕ). MAX_NUMBER ≤ x) (sym same.0) past,
                phase_is s _ is ∙ ap (λ (u : ℕ). Active u d) (sym same.0)
                    ∙ ap (λ (u : ℕ). Active m.round u) (sym same.1),
              ))
            ]
          ]
    ]
  ]
]

passed_step : (n : ℕ) (s : NodeState) (h : ℕ) → s ≡ free s.term Passive → h < n
    → HasStep n s (Got (Reset h)) ⊎ IsPastLimits n s (Reset h)
passed_step n s h is below = elim (cases_lt s.term MAX_NUMBER) [
  | inl fits ↦ inl (owing (s.term + 1) (Choosing 1) (Reset (h + 1)), restarts s.term h is refl below fits refl)
  | inr past ↦ inr past
]

home_step : (n : ℕ) (s : NodeState) (h : ℕ) → s ≡ free s.term Yielding → h ≡ n
    → HasStep n s (Got (Reset h)) ⊎ IsPastLimits n s (Reset h)
home_step n s h is home = elim (cases_lt s.term MAX_NUMBER) [
  | inl fits ↦ inl (
    free (s.term + 1) (Choosing 1),
    comes_home s.term is (ap (λ (x : ℕ). Got (Reset x)) home) fits refl,
  )
  | inr past ↦ inr past
]

-- ---- in a configuration

module _ (n i : ℕ) (c : Configuration) (li : i < n) (sound : IsSound n c) (owes : (c.state i).owed ≡ None)
    (waits : Receives (c.state i).phase) where
  lp : prev n i < n
  lp = prev_below n i li

  home : next n (prev n i) ≡ i
  home = next_prev n i li

  -- what comes after the first load
  abbrev more : List Load → List Load
  more ls = ls ++ debt (c.state (prev n i)).owed

  first_of : (m : Msg) (ls : List Load) → c.link (prev n i) ≡ Message m ∷ ls
      → messages_of n (c.state i).term c (prev n i) ≡ m ∷ of_term (c.state i).term (c.state i).term (more ls)
  first_of m ls link =
      ap (λ (k : ℕ). of_term (c.state i).term (c.state k).term (queue c (prev n i))) home
      ∙ ap (λ (xs : List Load). of_term (c.state i).term (c.state i).term (more xs)) link
      ∙ of_head (c.state i).term m (more ls)

  by_load : IsOnOrPast n (c.state i).term c → (l : Load) (ls : List Load) → c.link (prev n i) ≡ l ∷ ls
      → HasStep n (c.state i) (Got l) ⊎ IsPastLimits n (c.state i) l
  -- a message is of an election that is on, and hasn't gone further than the whole way
  by_load (inl on) (Message m) ls link =
      let origin = on.guarded.origins (prev n i) m lp
      (has_split (messages_of n (c.state i).term c (prev n i)) m [] (of_term (c.state i).term (c.state i).term
      (more ls))
      (first_of m ls link)) in
      message_step n (c.state i) m (c.state i).phase (free_is (c.state i) (c.state i).phase owes refl) waits
      (λ gave. omega (arith, on.within.none_yields i li refl, ap yielding gave)) origin.2.1
  by_load (inr past) (Message m) ls link =
      let there : m ∷ of_term (c.state i).term (c.state i).term (more ls) ≡ [] =
      sym (first_of m ls link) ∙ past.1.messages (prev n i) lp in
      absurd (let w : ⊥ = cc in w)
  -- a reset ends a term that is past, and comes to a passive node, or home
  by_load (inl on) (Reset h) ls link = absurd (omega (
    arith,
    sends_within n (c.state i).term c (prev n i) on.within lp,
    sound.even (prev n i) lp,
    ap (λ (k : ℕ). (c.state k).term) home,
    ap (λ (xs : List Load). resets (more xs)) link,
  ))
  by_load (inr past) (Reset h) ls link =
      let y = past.0 in
      let is : IsResetOn (c.state i).term (c.state (next n (prev n i))).term (queue c (prev n i)) h =
      subst (λ (k : ℕ). IsResetOn (c.state i).term (c.state k).term (queue c (prev n i)) h) (sym home)
      (subst (λ (xs : List Load). IsResetOn (c.state i).term (c.state i).term (more xs) h) (sym link)
      (inl (refl, refl))) in
      let way : IsUnderWay n (c.state i).term c y (prev n i) h = past.1.resets (prev n i) h lp is in
      elim (cases_eq i y) [
        | inl same ↦ home_step n (c.state i) h
            (free_is (c.state i) Yielding owes (subst (λ (k : ℕ). (c.state k).phase ≡ Yielding) (sym same) way.gave))
            (one_hop n i (prev n i) h n li lp (subst (λ (k : ℕ). IsAt n k (prev n i) h) (sym same) way.at)
            (home_at n i li))
        | inr ne ↦ elim (past.1.others i li ne) [
          | inl over ↦ absurd (omega arith)
          | inr here ↦ passed_step n (c.state i) h (free_is (c.state i) Passive owes here.1) (elim (cases_lt h n) [
            | inl below ↦ below
            | inr all ↦ absurd (ne (sym (at_home n y i past.1.place li
                (subst (λ (g : ℕ). IsAt n y (prev n i) g) (omega (arith, way.at.1)) way.at))))
          ])
        ]
      ]

pub loads_have_steps : LoadsHaveSteps
loads_have_steps n initiators run c i l ls two reaches li owes waits link =
    let sound = run_sound n run (beginning initiators) c two reaches (begins_sound n initiators) in
    elim (none_or_on n initiators run c two reaches) [
      | inl same ↦
          let empty : l ∷ ls ≡ [] = sym link ∙ ap (λ (x : Configuration). x.link (prev n i)) same in
          absurd (let w : ⊥ = cc in w)
      | inr on ↦ by_load n i c li sound owes waits (on (c.state i).term (sound.positive i li)) l ls link
    ]
