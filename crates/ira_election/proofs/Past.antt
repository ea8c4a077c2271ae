-- A term that is past: no message of it is on its way, and the one reset that ends it goes round to the node that
-- yielded.
use Rattle.std.proofs.Common.{◌≡◌, ◌≢◌, ℕ, ◌+◌, ◌<◌, ◌≤◌, ◌⊎◌, inl, inr, List, [], ◌∷◌, ◌++◌}
use Rattle.std.proofs.Common.{Option, Some, length, refl, sym, ◌∙◌, subst, ap, arith, length-append, append-nil}
use Rattle.std.proofs.lemmas.Bool.{cases_eq, cases_lt}
use Rattle.std.proofs.lemmas.List.{nil_from_length}
use Rattle.ira_event.specs.declared.event.Event.{Event}
use Rattle.ira_event.specs.declared.load.Load.{Load}
use Rattle.ira_event.specs.declared.load.Load.TheVariants.{Msg as Message, Reset}
use Rattle.ira_event.specs.declared.msg.Msg.{Msg}
use Rattle.ira_event.specs.Messages.{receipt}
use Rattle.ira_node.specs.declared.node_state.NodeState.{NodeState}
use Rattle.ira_node.specs.declared.phase.Phase.{Phase}
use Rattle.ira_node.specs.declared.phase.Phase.TheVariants.{Choosing, Active, Passive, Leader, Yielding}
use Rattle.ira_node.specs.NodeState.{IsLeader}
use Rattle.ira_node.specs.NodeStep.{NodeStep, sends, draws, passes, gives_in, purges, meets, ties, wins, yields}
use Rattle.ira_node.specs.NodeStep.{restarts, comes_home}
use Rattle.ira_order.specs.Ring.{next, prev}
use Rattle.ira_order.specs.Run.{Configuration, RingStep}
use Rattle.ira_order.proofs.Ranks.{next_below}
use Rattle.ira_order.proofs.Runs.{next_prev, prev_below}
use Rattle.ira_safety.specs.Reaches.{Reaches}
use Rattle.ira_safety.proofs.Steps.{term_rises, stays, Lasts, resets, yielding, IsStill as IsStillIn, phase_is, term_is}
use Rattle.ira_election.proofs.Election.{debt, queue, of_term, messages_of, phase_in, IsAt, IsWithin, IsOn, IsResetOn}
use Rattle.ira_election.proofs.Election.{IsUnderWay, IsPast, IsOnOrPast}
use Rattle.ira_election.proofs.Turns.{Moves, at_next, hop_to, later_hop, one_place}
use Rattle.ira_election.proofs.Queues.{owed_is, phase_before, phase_now, moves, step_terms, of_one, of_none}
use Rattle.ira_election.proofs.Queues.{moved, moved_reset, reset_was, reset_low, reset_high, resets_append, not_some}
use Rattle.ira_election.proofs.Queues.{not_reset, is_yielding}
use Rattle.ira_election.proofs.Keeps.{IsSound, stays_sound, keeps_on}

pub none_first : {X : Type 0} (xs ys : List X) → xs ++ ys ≡ [] → xs ≡ []
none_first {X} xs ys e = nil_from_length xs (omega (arith, ap length e, length-append xs ys))

pub none_second : {X : Type 0} (xs ys : List X) → xs ++ ys ≡ [] → ys ≡ []
none_second {X} xs ys e = nil_from_length ys (omega (arith, ap length e, length-append xs ys))

-- ---- one node

-- a node that yields yielded, or led
pub yields_from : (n : ℕ) (s : NodeState) (e : Event) (t : NodeState) → NodeStep n s e t → t.phase ≡ Yielding
    → (t.term ≡ s.term) × ((s.phase ≡ Yielding) ⊎ IsLeader s.phase)
yields_from n s e t (sends l runs o ee et) is = (term_is t _ et, inl (sym (phase_is t _ et) ∙ is))
yields_from n s e t (draws term round id es ee lo hi et) is = (let z = sym (phase_is t _ et) ∙ is in absurd cc)
yields_from n s e t (passes term m es ee h et) is = (let z = sym (phase_is t _ et) ∙ is in absurd cc)
yields_from n s e t (gives_in term round id m es ee g h et) is = (let z = sym (phase_is t _ et) ∙ is in absurd cc)
yields_from n s e t (purges term round id m es ee g et) is =
    (let z = sym (phase_is t _ et ∙ phase_is s _ es) ∙ is in absurd cc)
yields_from n s e t (meets term round id m es ee g h k et) is = (let z = sym (phase_is t _ et) ∙ is in absurd cc)
yields_from n s e t (ties term round id m es ee g h k j et) is = (let z = sym (phase_is t _ et) ∙ is in absurd cc)
yields_from n s e t (wins term round id m es ee g h k et) is = (let z = sym (phase_is t _ et) ∙ is in absurd cc)
yields_from n s e t (yields l ee low et) is = (term_is t _ et, inr l)
yields_from n s e t (restarts term h es ee below low et) is = (let z = sym (phase_is t _ et) ∙ is in absurd cc)
yields_from n s e t (comes_home term es ee low et) is = (let z = sym (phase_is t _ et) ∙ is in absurd cc)

pub leader_pair : (p : Phase) → IsLeader p → (x : ℕ) × (y : ℕ) × (p ≡ Leader x y)
leader_pair (Choosing r) l = absurd l
leader_pair (Active r d) l = absurd l
leader_pair Passive l = absurd l
leader_pair (Leader r d) l = (r, d, refl)
leader_pair Yielding l = absurd l

pub few_yield : (p : Phase) → yielding p ≤ 1
few_yield (Choosing r) = omega arith
few_yield (Active r d) = omega arith
few_yield Passive = omega arith
few_yield (Leader r d) = omega arith
few_yield Yielding = omega arith

-- a node that is passive in the election of a term that no node is past is passive, in that term
pub passive_in : (term : ℕ) (s : NodeState) → s.term ≤ term → phase_in term s ≡ Passive → (s.term ≡ term)
    × (s.phase ≡ Passive)
passive_in term s low is = elim (cases_lt s.term term) [
  | inl early ↦ (let z : Choosing 1 ≡ Passive = sym (phase_before term s early) ∙ is in absurd cc)
  | inr now ↦ (omega arith, sym (phase_now term s now) ∙ is)
]

same_reset : (o : Option Load) (h k : ℕ) → o ≡ Some (Reset h) → o ≡ Some (Reset k) → k ≡ h
same_reset o h k p q = (let e : Some (Reset k) ≡ Some (Reset h) = sym q ∙ p in cc)

-- what a passive or yielding node comes to owe that it didn't receive in its own term is no message
data Owes (s : NodeState) (e : Event) (t : NodeState) (m : Msg) : Type 0 where
  owes_none : (t.owed ≡ Some (Message m) → ⊥) → Owes s e t m
  owes_choosing : (r : ℕ) → s.phase ≡ Choosing r → Owes s e t m
  owes_active : (r d : ℕ) → s.phase ≡ Active r d → Owes s e t m
  owes_passed : (m0 : Msg) → receipt e ≡ Some (Message m0) → s.phase ≡ Passive → Owes s e t m

owes_of : (n : ℕ) (s : NodeState) (e : Event) (t : NodeState) (m : Msg) → NodeStep n s e t → Owes s e t m
owes_of n s e t m (sends l runs o ee et) = owes_none (not_some t.owed (Message m) (owed_is t _ et))
owes_of n s e t m (draws term round id es ee lo hi et) = owes_choosing round (phase_is s _ es)
owes_of n s e t m (passes term k es ee h et) = owes_passed k (ap receipt ee) (phase_is s _ es)
owes_of n s e t m (gives_in term round id k es ee g h et) = owes_active round id (phase_is s _ es)
owes_of n s e t m (purges term round id k es ee g et) = owes_active round id (phase_is s _ es)
owes_of n s e t m (meets term round id k es ee g h j et) = owes_active round id (phase_is s _ es)
owes_of n s e t m (ties term round id k es ee g h d j et) = owes_active round id (phase_is s _ es)
owes_of n s e t m (wins term round id k es ee g h d et) = owes_active round id (phase_is s _ es)
owes_of n s e t m (yields l ee low et) = owes_none (not_reset t.owed 1 m (owed_is t _ et))
owes_of n s e t m (restarts term k es ee below low et) = owes_none (not_reset t.owed (k + 1) m (owed_is t _ et))
owes_of n s e t m (comes_home term es ee low et) = owes_none (not_some t.owed (Message m) (owed_is t _ et))

-- a node comes to owe a reset where it leads, or is passive and receives one
data OwesReset (s : NodeState) (e : Event) (t : NodeState) (h : ℕ) : Type 0 where
  reset_leads : IsLeader s.phase → h ≡ 1 → OwesReset s e t h
  reset_passed : (k : ℕ) → receipt e ≡ Some (Reset k) → h ≡ k + 1 → s.phase ≡ Passive → t.term ≡ s.term + 1
      → OwesReset s e t h

reset_of : (n : ℕ) (s : NodeState) (e : Event) (t : NodeState) (h : ℕ) → NodeStep n s e t → t.owed ≡ Some (Reset h)
    → OwesReset s e t h
reset_of n s e t h (sends l runs o ee et) is = absurd (not_some t.owed (Reset h) (owed_is t _ et) is)
reset_of n s e t h (draws term round id es ee lo hi et) is = absurd (not_reset t.owed h _ is (owed_is t _ et))
reset_of n s e t h (passes term k es ee low et) is = absurd (not_reset t.owed h _ is (owed_is t _ et))
reset_of n s e t h (gives_in term round id k es ee g low et) is = absurd (not_reset t.owed h _ is (owed_is t _ et))
reset_of n s e t h (purges term round id k es ee g et) is =
    absurd (not_some t.owed (Reset h) (owed_is t _ et ∙ owed_is s _ es) is)
reset_of n s e t h (meets term round id k es ee g low j et) is = absurd (not_reset t.owed h _ is (owed_is t _ et))
reset_of n s e t h (ties term round id k es ee g low d j et) is = absurd (not_some t.owed (Reset h) (owed_is t _ et) is)
reset_of n s e t h (wins term round id k es ee g low d et) is = absurd (not_some t.owed (Reset h) (owed_is t _ et) is)
reset_of n s e t h (yields l ee low et) is = reset_leads l (same_reset t.owed 1 h (owed_is t _ et) is)
reset_of n s e t h (restarts term k es ee below low et) is =
    reset_passed k (ap receipt ee) (same_reset t.owed (k + 1) h (owed_is t _ et) is) (phase_is s _ es)
    (let p = term_is t _ et in let q = term_is s _ es in omega (arith, p, q))
reset_of n s e t h (comes_home term es ee low et) is = absurd (not_some t.owed (Reset h) (owed_is t _ et) is)

-- a node that yielded stays so, or gets its reset back from the whole way
yielding_on : (n : ℕ) (s : NodeState) (e : Event) (t : NodeState) → NodeStep n s e t → s.phase ≡ Yielding
    → ((t.phase ≡ Yielding) × (t.term ≡ s.term)) ⊎ ((receipt e ≡ Some (Reset n)) × (t.term ≡ s.term + 1))
yielding_on n s e t (sends l runs o ee et) is = inl (phase_is t _ et ∙ is, term_is t _ et)
yielding_on n s e t (draws term round id es ee lo hi et) is = (let z = sym (phase_is s _ es) ∙ is in absurd cc)
yielding_on n s e t (passes term m es ee h et) is = (let z = sym (phase_is s _ es) ∙ is in absurd cc)
yielding_on n s e t (gives_in term round id m es ee g h et) is = (let z = sym (phase_is s _ es) ∙ is in absurd cc)
yielding_on n s e t (purges term round id m es ee g et) is = (let z = sym (phase_is s _ es) ∙ is in absurd cc)
yielding_on n s e t (meets term round id m es ee g h k et) is = (let z = sym (phase_is s _ es) ∙ is in absurd cc)
yielding_on n s e t (ties term round id m es ee g h k j et) is = (let z = sym (phase_is s _ es) ∙ is in absurd cc)
yielding_on n s e t (wins term round id m es ee g h k et) is = (let z = sym (phase_is s _ es) ∙ is in absurd cc)
yielding_on n s e t (yields l ee low et) is = absurd (subst IsLeader is l)
yielding_on n s e t (restarts term h es ee below low et) is = (let z = sym (phase_is s _ es) ∙ is in absurd cc)
yielding_on n s e t (comes_home term es ee low et) is =
    inr (ap receipt ee, (let p = term_is t _ et in let q = term_is s _ es in omega (arith, p, q)))

-- ---- one step

-- while no node is past a term, and none yields in it, nothing is sent of a later one
pub sends_within : (n term : ℕ) (c : Configuration) (j : ℕ) → IsWithin n term c → j < n
    → (c.state j).term + yielding (c.state j).phase ≤ term
sends_within n term c j within lj = elim (cases_eq (c.state j).term term) [
  | inl now ↦ omega (arith, within.none_yields j lj now)
  | inr ne ↦ omega (arith, within.terms j lj, few_yield (c.state j).phase)
]

module _ (n i term : ℕ) (two : 2 ≤ n) (e : Event) (c d : Configuration) (step : RingStep n i e c d)
    (sound : IsSound n c)
  where
    li : i < n
    li = step.place

    lp : prev n i < n
    lp = prev_below n i step.place

    mv : Moves n i (queue c) (queue d) (debt (receipt e)) (debt (d.state i).owed)
    mv = moves n two i step.place c d step.others e step (sound.settled i step.place)

    rises : (d.state i).term ≡ (c.state i).term + resets (debt (receipt e))
    rises = (step_terms n (c.state i) e (d.state i) step.node).0

    abbrev last : ℕ
    last = (c.state (next n i)).term + resets (queue c i)

    last_is : last ≡ (c.state i).term + yielding (c.state i).phase
    last_is = sound.even i step.place

    abbrev taken : List Msg
    taken = of_term term (c.state i).term (debt (receipt e))

    abbrev put : List Msg
    put = of_term term last (debt (d.state i).owed)

    in_term : Moves n i (messages_of n term c) (messages_of n term d) taken put
    in_term = moved n two i step.place c d step.others (receipt e) (d.state i).owed mv rises term

    resets_came : (j h : ℕ) → j < n → IsResetOn term (d.state (next n j)).term (queue d j) h
        → IsResetOn term (c.state (next n j)).term (queue c j) h
        ⊎ ((j ≡ i) × ((d.state i).owed ≡ Some (Reset h)) × (last ≡ term))
    resets_came j h lj is =
        moved_reset n two i step.place c d step.others (receipt e) (d.state i).owed mv rises term j h lj is

    -- no message comes where none was and none is put
    none_on : ((j : ℕ) → j < n → messages_of n term c j ≡ []) → put ≡ [] → (j : ℕ) → j < n → messages_of n term d j ≡ []
    none_on none no_put j lj = elim (cases_eq j i) [
      | inl q ↦ subst (λ (k : ℕ). messages_of n term d k ≡ []) (sym q) (in_term.puts
          ∙ ap (λ (ms : List Msg). messages_of n term c i ++ ms) no_put ∙ append-nil (messages_of n term c i)
          ∙ none i step.place)
      | inr ne ↦ elim (cases_eq j (prev n i)) [
        | inl q ↦ subst (λ (k : ℕ). messages_of n term d k ≡ []) (sym q)
            (none_second taken (messages_of n term d (prev n i)) (sym in_term.gets ∙ none (prev n i) lp))
        | inr far ↦ in_term.rest j lj ne far ∙ none j lj
      ]
    ]

    later : (b : ℕ) → b < n → term < (c.state b).term → term < (d.state b).term
    later b lb low = elim (cases_eq b i) [
      | inl q ↦ subst (λ (k : ℕ). term < (d.state k).term) (sym q)
          (let here : term < (c.state i).term = subst (λ (k : ℕ). term < (c.state k).term) q low in
          omega (arith, term_rises n (c.state i) e (d.state i) step.node))
      | inr ne ↦ omega (arith, term_is _ _ (step.others b lb ne))
    ]

    -- a node that is still in a phase to the end of the term stays so
    still_on : (p : Phase) → (p ≡ Passive) ⊎ (p ≡ Yielding) → (j : ℕ) → j < n → IsStillIn term p (c.state j)
        → IsStillIn term p (d.state j)
    still_on p lasts j lj is = elim (cases_eq j i) [
      | inl q ↦ subst (λ (k : ℕ). IsStillIn term p (d.state k)) (sym q) (stays n term p (c.state i) e (d.state i)
          (elim lasts [ inl e ↦ subst Lasts (sym e) tt | inr e ↦ subst Lasts (sym e) tt ]) step.node
          (subst (λ (k : ℕ). IsStillIn term p (c.state k)) q is))
      | inr ne ↦ subst (IsStillIn term p) (sym (step.others j lj ne)) is
    ]

    -- ---- the term is past

    module _ (y : ℕ) (past : IsPast n term y c) where
      -- a node that is in the term neither chooses nor is active
      passive_now : (c.state i).term ≡ term → ((c.state i).phase ≡ Passive) ⊎ ((c.state i).phase ≡ Yielding)
      passive_now now = elim (cases_eq i y) [
        | inl q ↦ elim (subst (λ (k : ℕ). IsStillIn term Yielding (c.state k)) (sym q) past.own) [
          | inl over ↦ absurd (omega arith)
          | inr here ↦ inr here.1
        ]
        | inr ne ↦ elim (past.others i step.place ne) [
          | inl over ↦ absurd (omega arith)
          | inr here ↦ inl here.1
        ]
      ]

      puts_none : put ≡ []
      puts_none = of_none term last (d.state i).owed (λ m is now.
          by_owes m is now (owes_of n (c.state i) e (d.state i) m step.node))
        where
          not_yielding : (p : Phase) → ((c.state i).phase ≡ p) → yielding p ≡ 0 → last ≡ term → (c.state i).term ≡ term
          not_yielding p is none now = omega (arith, last_is, ap yielding is)

          by_owes : (m : Msg) → (d.state i).owed ≡ Some (Message m) → last ≡ term
              → Owes (c.state i) e (d.state i) m → ⊥
          by_owes m is now (owes_none no_message) = no_message is
          by_owes m is now (owes_choosing r p) = elim (passive_now (not_yielding (Choosing r) p refl now)) [
            | inl q ↦ (let z = sym p ∙ q in cc)
            | inr q ↦ (let z = sym p ∙ q in cc)
          ]
          by_owes m is now (owes_active r d p) = elim (passive_now (not_yielding (Active r d) p refl now)) [
            | inl q ↦ (let z = sym p ∙ q in cc)
            | inr q ↦ (let z = sym p ∙ q in cc)
          ]
          by_owes m is now (owes_passed m0 got p) =
              let there : m0 ∷ [] ≡ [] =
              sym (of_one term (c.state i).term (receipt e) m0 got (not_yielding Passive p refl now))
              ∙ none_first taken (messages_of n term d (prev n i)) (sym in_term.gets ∙ past.messages (prev n i) lp) in
              (let w : ⊥ = cc in w)

      -- the reset that is on its way stays so
      goes_on : (j h : ℕ) → j < n → IsResetOn term (d.state (next n j)).term (queue d j) h
          → IsUnderWay n term c y j h → IsUnderWay n term d y j h
      goes_on j h lj is way = record {
        at = way.at;
        in_term = still.0;
        gave = still.1;
        passed = λ b g lb two low far. later b lb (way.passed b g lb two low far);
      }
        where
          home : i ≡ y → (receipt e ≡ Some (Reset n)) → (d.state i).term ≡ (c.state i).term + 1 → ⊥
          home same got up =
              let now : (c.state i).term ≡ term = subst (λ (k : ℕ). (c.state k).term ≡ term) (sym same) way.in_term in
              let it : IsUnderWay n term c y (prev n i) n = past.resets (prev n i) n lp
              (reset_was n two i step.place c d step.others (receipt e) (d.state i).owed mv rises term n got now) in
              let over : (b : ℕ) → b < n → term < (d.state b).term = λ b lb. elim (cases_eq b y) [
                | inl q ↦ subst (λ (k : ℕ). term < (d.state k).term) (same ∙ sym q) (omega arith)
                | inr ne ↦
                    let h = hop_to n y b past.place lb in
                    later b lb
                    (it.passed b h.0 lb (later_hop n y b h.0 past.place lb (λ q. ne (sym q)) h.1) h.1.1 h.1)
              ] in
              omega (
                arith,
                over (next n j) (next_below n j lj),
                reset_low term (d.state (next n j)).term (queue d j) h is,
              )

          still : ((d.state y).term ≡ term) × ((d.state y).phase ≡ Yielding)
          still = elim (cases_eq i y) [
            | inr ne ↦
                let same = step.others y past.place (λ q. ne (sym q)) in
                (term_is _ _ same ∙ way.in_term, phase_is _ _ same ∙ way.gave)
            | inl q ↦
                let gave : (c.state i).phase ≡ Yielding =
                subst (λ (k : ℕ). (c.state k).phase ≡ Yielding) (sym q) way.gave in
                let now : (c.state i).term ≡ term = subst (λ (k : ℕ). (c.state k).term ≡ term) (sym q) way.in_term in
                subst (λ (k : ℕ). ((d.state k).term ≡ term) × ((d.state k).phase ≡ Yielding)) q
                (elim (yielding_on n (c.state i) e (d.state i) step.node gave) [
                  | inl s ↦ (s.1 ∙ now, s.0)
                  | inr s ↦ absurd (home q s.0 s.1)
                ])
          ]

      resets_on : (j h : ℕ) → j < n → IsResetOn term (d.state (next n j)).term (queue d j) h → IsUnderWay n term d y j h
      resets_on j h lj is = elim (resets_came j h lj is) [
        | inl old ↦ goes_on j h lj is (past.resets j h lj old)
        | inr new ↦ subst (λ (k : ℕ). IsUnderWay n term d y k h) (sym new.0)
            (by_new new.2 (reset_of n (c.state i) e (d.state i) h step.node new.1))
      ]
        where
          by_new : last ≡ term → OwesReset (c.state i) e (d.state i) h → IsUnderWay n term d y i h
          by_new now (reset_leads l one) =
              let pair = leader_pair (c.state i).phase l in
              let here : (c.state i).term ≡ term = omega (arith, last_is, ap yielding pair.2) in
              absurd (elim (passive_now here) [
                | inl q ↦ (let z = sym pair.2 ∙ q in let w : ⊥ = cc in w)
                | inr q ↦ (let z = sym pair.2 ∙ q in let w : ⊥ = cc in w)
              ])
          by_new now (reset_passed k got more p up) =
              let here : (c.state i).term ≡ term = omega (arith, last_is, ap yielding p) in
              let way : IsUnderWay n term c y (prev n i) k = past.resets (prev n i) k lp
              (reset_was n two i step.place c d step.others (receipt e) (d.state i).owed mv rises term k got here) in
              let ne : y ≢ i = λ q.
              (let z : Passive ≡ Yielding = sym p ∙ subst (λ (k : ℕ). (c.state k).phase ≡ Yielding) q way.gave in
              let w : ⊥ = cc in w) in
              let same = step.others y past.place ne in
              let at : IsAt n y i (k + 1) = at_next n y i k past.place li ne way.at in
              record {
                at = subst (λ (g : ℕ). IsAt n y i g) (sym more) at;
                in_term = term_is _ _ same ∙ way.in_term;
                gave = phase_is _ _ same ∙ way.gave;
                passed = λ b g lb two low far. elim (cases_lt k g) [
                  | inr less ↦ later b lb (way.passed b g lb two less far)
                  | inl top ↦
                      let one : i ≡ b = one_place n y i b (k + 1) past.place li lb at
                      (subst (λ (g : ℕ). IsAt n y b g) (omega arith) far) in
                      subst (λ (k : ℕ). term < (d.state k).term) one (omega arith)
                ];
              }

      pub stays_past : IsPast n term y d
      stays_past = record {
        place = past.place;
        own = still_on Yielding (inr refl) y past.place past.own;
        others = λ j lj ne. still_on Passive (inl refl) j lj (past.others j lj ne);
        messages = none_on past.messages puts_none;
        resets = resets_on;
      }

    -- ---- the term is on

    module _ (on : IsOn n term c) where
      -- the term that a node comes to is no later than that of the one before it
      low_term : (d.state i).term ≤ term
      low_term =
          let even : (c.state i).term + resets (queue c (prev n i))
          ≡ (c.state (prev n i)).term + yielding (c.state (prev n i)).phase =
          subst (λ (k : ℕ). (c.state k).term + resets (queue c (prev n i))
          ≡ (c.state (prev n i)).term + yielding (c.state (prev n i)).phase) (next_prev n i step.place)
          (sound.even (prev n i) lp) in
          omega (
            arith,
            rises,
            even,
            sends_within n term c (prev n i) on.within lp,
            ap resets mv.gets,
            resets_append (debt (receipt e)) (queue d (prev n i)),
          )

      -- it stays on, where the node doesn't yield in it now
      stays_within : ((d.state i).term ≡ term → yielding (d.state i).phase ≡ 0) → IsWithin n term d
      stays_within none = record {
        terms = λ j lj. elim (cases_eq j i) [
          | inl same ↦ subst (λ (k : ℕ). (d.state k).term ≤ term) (sym same) low_term
          | inr ne ↦ omega (arith, term_is _ _ (step.others j lj ne), on.within.terms j lj)
        ];
        none_yields = λ j lj now. elim (cases_eq j i) [
          | inl same ↦ subst (λ (k : ℕ). yielding (d.state k).phase ≡ 0) (sym same)
              (none (subst (λ (k : ℕ). (d.state k).term ≡ term) same now))
          | inr ne ↦ ap yielding (phase_is _ _ (step.others j lj ne))
              ∙ on.within.none_yields j lj (sym (term_is _ _ (step.others j lj ne)) ∙ now)
        ];
      }

      -- before that no reset ends it
      no_reset : (j h : ℕ) → j < n → IsResetOn term (c.state (next n j)).term (queue c j) h → ⊥
      no_reset j h lj is = omega (
        arith,
        sends_within n term c j on.within lj,
        sound.even j lj,
        reset_high term (c.state (next n j)).term (queue c j) h is,
      )

      -- and is past where it yields
      comes_past : (d.state i).term ≡ term → (d.state i).phase ≡ Yielding → IsPast n term i d
      comes_past now gave =
          let from = yields_from n (c.state i) e (d.state i) step.node gave in
          let was : (c.state i).term ≡ term = sym from.0 ∙ now in
          elim from.1 [
            | inl already ↦ absurd (omega (arith, on.within.none_yields i step.place was, ap yielding already))
            | inr leads ↦
                let pair = leader_pair (c.state i).phase leads in
                let over = on.orderly.ends i pair.0 pair.1 step.place
                (phase_now term (c.state i) (omega arith) ∙ pair.2) in
                record {
                  place = step.place;
                  own = inr (now, gave);
                  others = λ j lj ne. still_on Passive (inl refl) j lj (inr (passive_in term (c.state j)
                      (on.within.terms j lj) (over.others j lj ne)));
                  messages = none_on over.empty (of_none term last (d.state i).owed (λ m is last_now.
                      by_owes pair.0 pair.1 pair.2 m is (owes_of n (c.state i) e (d.state i) m step.node)));
                  resets = λ j h lj is. elim (resets_came j h lj is) [
                    | inl old ↦ absurd (no_reset j h lj old)
                    | inr new ↦ subst (λ (k : ℕ). IsUnderWay n term d i k h) (sym new.0)
                        (by_new pair.0 pair.1 pair.2 h (reset_of n (c.state i) e (d.state i) h step.node new.1))
                  ];
                }
          ]
        where
          by_owes : (x y : ℕ) → (c.state i).phase ≡ Leader x y → (m : Msg) → (d.state i).owed ≡ Some (Message m)
              → Owes (c.state i) e (d.state i) m → ⊥
          by_owes x y is m owes (owes_none no_message) = no_message owes
          by_owes x y is m owes (owes_choosing r p) = (let z = sym p ∙ is in cc)
          by_owes x y is m owes (owes_active r d p) = (let z = sym p ∙ is in cc)
          by_owes x y is m owes (owes_passed m0 got p) = (let z = sym p ∙ is in cc)

          by_new : (x y : ℕ) → (c.state i).phase ≡ Leader x y → (h : ℕ) → OwesReset (c.state i) e (d.state i) h
              → IsUnderWay n term d i i h
          by_new x y is h (reset_passed k got more p up) = (let z = sym p ∙ is in absurd (let w : ⊥ = cc in w))
          by_new x y is h (reset_leads l one) = record {
            at = subst (λ (g : ℕ). IsAt n i i g) (sym one) (omega arith, omega arith, inl (omega arith));
            in_term = now;
            gave = gave;
            passed = λ b g lb two low far. absurd (omega arith);
          }

      goes_on_or_past : IsOnOrPast n term d
      goes_on_or_past = elim (is_yielding (d.state i).phase) [
        | inl none ↦ inl (stays_on (λ now. none))
        | inr gave ↦ elim (cases_eq (d.state i).term term) [
          | inl now ↦ inr (i, comes_past now gave)
          | inr ne ↦ inl (stays_on (λ now. absurd (ne now)))
        ]
      ]
        where
          stays_on : ((d.state i).term ≡ term → yielding (d.state i).phase ≡ 0) → IsOn n term d
          stays_on none = keeps_on n i term two e c d step sound (stays_within none) on

    pub on_or_past : IsOnOrPast n term c → IsOnOrPast n term d
    on_or_past (inl on) = goes_on_or_past on
    on_or_past (inr past) = inr (past.0, stays_past past.0 past.1)

-- ---- runs

pub run_sound : (n : ℕ) (run : List (ℕ × Event)) (c d : Configuration) → 2 ≤ n → Reaches n c run d → IsSound n c
    → IsSound n d
run_sound n [] c d two reaches sound = subst (λ (x : Configuration). IsSound n x) (sym reaches) sound
run_sound n (x ∷ run) c d two reaches sound =
    run_sound n run reaches.0 d two reaches.2 (stays_sound n x.0 x.1 c reaches.0 two reaches.1 sound)

pub run_on : (n term : ℕ) (run : List (ℕ × Event)) (c d : Configuration) → 2 ≤ n → Reaches n c run d → IsSound n c
    → IsOnOrPast n term c → IsOnOrPast n term d
run_on n term [] c d two reaches sound on = subst (λ (x : Configuration). IsOnOrPast n term x) (sym reaches) on
run_on n term (x ∷ run) c d two reaches sound on =
    let b = reaches.0 in
    run_on n term run b d two reaches.2 (stays_sound n x.0 x.1 c b two reaches.1 sound)
    (on_or_past n x.0 term two x.1 c b reaches.1 sound on)
