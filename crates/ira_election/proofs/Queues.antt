-- What a ring step does to the queues and to the terms.
use Rattle.std.proofs.Common.{◌≡◌, ◌≢◌, ℕ, ◌+◌, ◌<◌, ◌≤◌, ◌⊎◌, ◌==◌, inl, inr, List, [], ◌∷◌, ◌++◌, Option, Some}
use Rattle.std.proofs.Common.{Bool, true, false, cond, None, refl, sym, ◌∙◌, subst, ap, arith, append-nil}
use Rattle.std.proofs.lemmas.Bool.{cases_eq, eq-eqb, ne_eqb}
use Rattle.std.proofs.lemmas.Bool.Decides.{nat_tests}
use Rattle.ira_event.specs.declared.event.Event.{Event}
use Rattle.ira_event.specs.declared.event.Event.TheVariants.{Draw, Sent, Got, Yield}
use Rattle.ira_event.specs.declared.load.Load.{Load}
use Rattle.ira_event.specs.declared.load.Load.TheVariants.{Msg as Message, Reset}
use Rattle.ira_event.specs.declared.msg.Msg.{Msg}
use Rattle.ira_event.specs.Messages.{sending, receipt}
use Rattle.ira_node.specs.declared.node_state.NodeState.{NodeState}
use Rattle.ira_node.specs.declared.phase.Phase.{Phase}
use Rattle.ira_node.specs.declared.phase.Phase.TheVariants.{Choosing, Active, Passive, Leader, Yielding}
use Rattle.ira_node.specs.NodeState.{IsLeader}
use Rattle.ira_node.specs.NodeStep.{NodeStep, sends, draws, passes, gives_in, purges, meets, ties, wins, yields}
use Rattle.ira_node.specs.NodeStep.{restarts, comes_home}
use Rattle.ira_order.specs.Ring.{prev, next}
use Rattle.ira_order.specs.Run.{Configuration, RingStep, LinkStep}
use Rattle.ira_order.proofs.Ranks.{next_below, next_other}
use Rattle.ira_order.proofs.Runs.{next_prev, prev_next, prev_below}
use Rattle.ira_safety.proofs.Steps.{Settled, resets, yielding, phase_is, term_is}
use Rattle.ira_election.proofs.Election.{debt, queue, of_term, messages_of, phase_in, IsResetOn, AreTermsEven}
use Rattle.ira_election.proofs.Turns.{Moves, prev_other}

pub owed_is : (s t : NodeState) → s ≡ t → s.owed ≡ t.owed
owed_is s t e = ap (λ (x : NodeState). x.owed) e

-- ---- what is owed or received

pub not_some : (o : Option Load) (l : Load) → o ≡ None → o ≡ Some l → ⊥
not_some o l p q = (let e : None ≡ Some l = sym p ∙ q in cc)

pub not_message : (o : Option Load) (m : Msg) → o ≡ None → o ≡ Some (Message m) → ⊥
not_message o m = not_some o (Message m)

pub not_reset : (o : Option Load) (h : ℕ) (m : Msg) → o ≡ Some (Reset h) → o ≡ Some (Message m) → ⊥
not_reset o h m p q = (let e : Some (Reset h) ≡ Some (Message m) = sym p ∙ q in cc)

pub is_yielding : (p : Phase) → (yielding p ≡ 0) ⊎ (p ≡ Yielding)
is_yielding (Choosing round) = inl refl
is_yielding (Active round id) = inl refl
is_yielding Passive = inl refl
is_yielding (Leader round id) = inl refl
is_yielding Yielding = inr refl

-- ---- phases in a term

pub phase_before : (term : ℕ) (s : NodeState) → s.term < term → phase_in term s ≡ Choosing 1
phase_before term s low = grind (arith, nat_tests)

pub phase_now : (term : ℕ) (s : NodeState) → term ≤ s.term → phase_in term s ≡ s.phase
phase_now term s low = grind (arith, nat_tests)

-- ---- lists of loads

pub resets_append : (ls ks : List Load) → resets (ls ++ ks) ≡ resets ls + resets ks
resets_append [] ks = omega arith
resets_append (l ∷ ls) ks = omega (arith, resets_append ls ks)

-- the messages of a term, in their order
of_more : (term t : ℕ) (ls ks : List Load)
    → of_term term t (ls ++ ks) ≡ of_term term t ls ++ of_term term (t + resets ls) ks
of_more term t [] ks = (let same : t ≡ t + 0 = omega arith in ap (λ (x : ℕ). of_term term x ks) same)
of_more term t (Message k ∷ ls) ks =
    let same : t + resets ls ≡ t + resets (Message k ∷ ls) = omega arith in
    front (t == term) k (of_term term t (ls ++ ks)) (of_term term t ls) (of_term term (t + resets (Message k ∷ ls)) ks)
    (of_more term t ls ks ∙ ap (λ (x : ℕ). of_term term t ls ++ of_term term x ks) same)
  where
    front : (b : Bool) (k : Msg) (xs ys zs : List Msg) → xs ≡ ys ++ zs → cond b (k ∷ xs) xs ≡ cond b (k ∷ ys) ys ++ zs
    front true k xs ys zs e = ap (λ (x : List Msg). k ∷ x) e
    front false k xs ys zs e = e
of_more term t (Reset h ∷ ls) ks =
    let same : t + 1 + resets ls ≡ t + resets (Reset h ∷ ls) = omega arith in
    of_more term (t + 1) ls ks ∙ ap (λ (x : ℕ). of_term term (t + 1) ls ++ of_term term x ks) same

pub of_one : (term t : ℕ) (o : Option Load) (m : Msg) → o ≡ Some (Message m) → t ≡ term
    → of_term term t (debt o) ≡ m ∷ []
of_one term t o m is now =
    ap (λ x. of_term term t (debt x)) is ∙ ap (λ (b : Bool). cond b (m ∷ []) []) (eq-eqb t term now)

pub of_none : (term t : ℕ) (o : Option Load) → ((m : Msg) → o ≡ Some (Message m) → t ≡ term → ⊥)
    → of_term term t (debt o) ≡ []
of_none term t None nay = refl
of_none term t (Some (Reset h)) nay = refl
of_none term t (Some (Message m)) nay = elim (cases_eq t term) [
  | inl e ↦ absurd (nay m refl e)
  | inr ne ↦ ap (λ (b : Bool). cond b (m ∷ []) []) (ne_eqb t term ne)
]

-- a message that stands first is of the receiver's term
pub of_head : (term : ℕ) (m : Msg) (ls : List Load) → of_term term term (Message m ∷ ls) ≡ m ∷ of_term term term ls
of_head term m ls =
    ap (λ (b : Bool). cond b (m ∷ of_term term term ls) (of_term term term ls)) (eq-eqb term term refl)

-- where there is no reset and no message of the term there is nothing
pub of_nothing : (term t : ℕ) (ls : List Load) → t ≡ term → resets ls ≡ 0 → of_term term t ls ≡ [] → ls ≡ []
of_nothing term t [] now none empty = refl
of_nothing term t (Message k ∷ ls) now none empty =
    let e : k ∷ of_term term t ls ≡ [] = subst (λ (b : Bool). cond b (k ∷ of_term term t ls) (of_term term t ls) ≡ [])
    (eq-eqb t term now) empty in
    absurd (let w : ⊥ = cc in w)
of_nothing term t (Reset k ∷ ls) now none empty = absurd (omega arith)

-- ---- the reset that ends a term

-- at the end of a queue
reset_more : (term t : ℕ) (ls : List Load) (o : Option Load) (h : ℕ) → IsResetOn term t (ls ++ debt o) h
    → IsResetOn term t ls h ⊎ ((o ≡ Some (Reset h)) × (t + resets ls ≡ term))
reset_more term t [] None h is = absurd is
reset_more term t [] (Some (Message k)) h is = absurd is
reset_more term t [] (Some (Reset k)) h (inl e) = inr (ap (λ x. Some (Reset x)) (sym e.1), omega (arith, e.0))
reset_more term t [] (Some (Reset k)) h (inr is) = absurd is
reset_more term t (Message k ∷ ls) o h is = elim (reset_more term t ls o h is) [
  | inl b ↦ inl b
  | inr q ↦ inr (q.0, omega (arith, q.1))
]
reset_more term t (Reset k ∷ ls) o h (inl e) = inl (inl e)
reset_more term t (Reset k ∷ ls) o h (inr is) = elim (reset_more term (t + 1) ls o h is) [
  | inl b ↦ inl (inr b)
  | inr q ↦ inr (q.0, omega (arith, q.1))
]

-- behind its front
reset_behind : (term t : ℕ) (o : Option Load) (ls : List Load) (h : ℕ) → IsResetOn term (t + resets (debt o)) ls h
    → IsResetOn term t (debt o ++ ls) h
reset_behind term t None ls h is = subst (λ (x : ℕ). IsResetOn term x ls h) (omega arith) is
reset_behind term t (Some (Message k)) ls h is = subst (λ (x : ℕ). IsResetOn term x ls h) (omega arith) is
reset_behind term t (Some (Reset k)) ls h is = inr (subst (λ (x : ℕ). IsResetOn term x ls h) (omega arith) is)

-- its term lies between that of the receiver and that after the queue
pub reset_low : (term t : ℕ) (ls : List Load) (h : ℕ) → IsResetOn term t ls h → t ≤ term
reset_low term t [] h is = absurd is
reset_low term t (Message k ∷ ls) h is = reset_low term t ls h is
reset_low term t (Reset k ∷ ls) h (inl e) = omega (arith, e.0)
reset_low term t (Reset k ∷ ls) h (inr is) = omega (arith, reset_low term (t + 1) ls h is)

pub reset_high : (term t : ℕ) (ls : List Load) (h : ℕ) → IsResetOn term t ls h → term + 1 ≤ t + resets ls
reset_high term t [] h is = absurd is
reset_high term t (Message k ∷ ls) h is = omega (arith, reset_high term t ls h is)
reset_high term t (Reset k ∷ ls) h (inl e) = omega (arith, e.0)
reset_high term t (Reset k ∷ ls) h (inr is) = omega (arith, reset_high term (t + 1) ls h is)

-- a node sends what it owes, or owes nothing
abbrev pub OwesOrSends : NodeState → Event → NodeState → Type 0
OwesOrSends s e t = ((s.owed ≡ None) × (sending e ≡ None))
    ⊎ ((l : Load) × (e ≡ Sent l) × (s.owed ≡ Some l) × (t.owed ≡ None))

leader_owes : (p : Phase) (o : Option Load) → IsLeader p → Settled p o → o ≡ None
leader_owes (Choosing round) o l h = absurd l
leader_owes (Active round id) o l h = absurd l
leader_owes Passive o l h = absurd l
leader_owes (Leader round id) o l h = h
leader_owes Yielding o l h = absurd l

pub owes_or_sends : (n : ℕ) (s : NodeState) (e : Event) (t : NodeState) → Settled s.phase s.owed → NodeStep n s e t
    → OwesOrSends s e t
owes_or_sends n s e t h (sends l runs o ee et) = inr (l, ee, o, owed_is t _ et)
owes_or_sends n s e t h (draws term round id es ee lo hi et) = inl (owed_is s _ es, ap sending ee)
owes_or_sends n s e t h (passes term m es ee k et) = inl (owed_is s _ es, ap sending ee)
owes_or_sends n s e t h (gives_in term round id m es ee g k et) = inl (owed_is s _ es, ap sending ee)
owes_or_sends n s e t h (purges term round id m es ee g et) = inl (owed_is s _ es, ap sending ee)
owes_or_sends n s e t h (meets term round id m es ee g k j et) = inl (owed_is s _ es, ap sending ee)
owes_or_sends n s e t h (ties term round id m es ee g k d j et) = inl (owed_is s _ es, ap sending ee)
owes_or_sends n s e t h (wins term round id m es ee g k d et) = inl (owed_is s _ es, ap sending ee)
owes_or_sends n s e t h (yields l ee low et) = inl (leader_owes s.phase s.owed l h, ap sending ee)
owes_or_sends n s e t h (restarts term k es ee below low et) = inl (owed_is s _ es, ap sending ee)
owes_or_sends n s e t h (comes_home term es ee low et) = inl (owed_is s _ es, ap sending ee)

-- the terms before and after a step: of what is received and of what is owed then
pub step_terms : (n : ℕ) (s : NodeState) (e : Event) (t : NodeState) → NodeStep n s e t
    → (t.term ≡ s.term + resets (debt (receipt e)))
    × (t.term + yielding t.phase ≡ s.term + yielding s.phase + resets (debt t.owed))
step_terms n s e t (sends l runs o ee et) = rw (ee, et) (omega arith, omega arith)
step_terms n s e t (draws term round id es ee lo hi et) = rw (es, ee, et) (omega arith, omega arith)
step_terms n s e t (passes term m es ee k et) = rw (es, ee, et) (omega arith, omega arith)
step_terms n s e t (gives_in term round id m es ee g k et) = rw (es, ee, et) (omega arith, omega arith)
step_terms n s e t (purges term round id m es ee g et) = rw (et, es, ee) (omega arith, omega arith)
step_terms n s e t (meets term round id m es ee g k j et) = rw (es, ee, et) (omega arith, omega arith)
step_terms n s e t (ties term round id m es ee g k d j et) = rw (es, ee, et) (omega arith, omega arith)
step_terms n s e t (wins term round id m es ee g k d et) = rw (es, ee, et) (omega arith, omega arith)
step_terms n s e t (yields l ee low et) = rw (ee, et) (omega arith, omega (arith, none s.phase l))
  where
    none : (p : Phase) → IsLeader p → yielding p ≡ 0
    none (Choosing round) l = refl
    none (Active round id) l = refl
    none Passive l = refl
    none (Leader round id) l = refl
    none Yielding l = absurd l
step_terms n s e t (restarts term k es ee below low et) = rw (es, ee, et) (omega arith, omega arith)
step_terms n s e t (comes_home term es ee low et) = rw (es, ee, et) (omega arith, omega arith)

module _ (n : ℕ) (two : 2 ≤ n) (i : ℕ) (li : i < n) (c d : Configuration)
    (others : (j : ℕ) → j < n → j ≢ i → d.state j ≡ c.state j) where
  -- a queue whose link stays, of another node
  same_queue : (j : ℕ) → j < n → j ≢ i → d.link j ≡ c.link j → queue d j ≡ queue c j
  same_queue j lj ne link = ap (λ (ls : List Load). ls ++ debt (d.state j).owed) link
      ∙ ap (λ o. c.link j ++ debt o) (owed_is (d.state j) (c.state j) (others j lj ne))

  -- the queue of a node that owed nothing, where its link stays
  own_queue : (c.state i).owed ≡ None → d.link i ≡ c.link i → queue d i ≡ queue c i ++ debt (d.state i).owed
  own_queue free link = ap (λ (ls : List Load). ls ++ debt (d.state i).owed) (link ∙ sym (append-nil (c.link i))
      ∙ ap (λ o. c.link i ++ debt o) (sym free))

  -- an event of its own moves what the node comes to owe
  moves_by : (c.state i).owed ≡ None → ((j : ℕ) → j < n → d.link j ≡ c.link j)
      → Moves n i (queue c) (queue d) [] (debt (d.state i).owed)
  moves_by free links = record {
    gets = sym (same_queue (prev n i) (prev_below n i li) (prev_other n i two li) (links (prev n i)
        (prev_below n i li)));
    puts = own_queue free (links i li);
    rest = λ j lj ne far. same_queue j lj ne (links j lj);
  }

  moves_of : (e : Event) → LinkStep n i e c.link d.link → OwesOrSends (c.state i) e (d.state i)
      → Moves n i (queue c) (queue d) (debt (receipt e)) (debt (d.state i).owed)
  moves_of (Draw id) links (inl o) = moves_by o.0 links
  moves_of (Draw id) links (inr k) = (let e = k.1 in cc)
  moves_of Yield links (inl o) = moves_by o.0 links
  moves_of Yield links (inr k) = (let e = k.1 in cc)
  moves_of (Sent m) links (inl o) = (let e = o.1 in cc)
  moves_of (Sent m) links (inr k) = record {
    gets = sym (same_queue (prev n i) (prev_below n i li) (prev_other n i two li)
        (links.1 (prev n i) (prev_below n i li) (prev_other n i two li)));
    puts = ap (λ (ls : List Load). ls ++ debt (d.state i).owed)
        (links.0 ∙ (let same : Sent m ≡ Sent k.0 = k.1 in let one : m ≡ k.0 = cc in
        ap (λ x. c.link i ++ x ∷ []) one ∙ ap (λ o. c.link i ++ debt o) (sym k.2)));
    rest = λ j lj ne far. same_queue j lj ne (links.1 j lj ne);
  }
  moves_of (Got m) links (inl o) = record {
    gets = ap (λ (ls : List Load). ls ++ debt (c.state (prev n i)).owed) links.0
        ∙ ap (λ o. m ∷ (d.link (prev n i) ++ debt o))
        (sym (owed_is (d.state (prev n i)) (c.state (prev n i)) (others (prev n i) (prev_below n i li)
        (prev_other n i two li))));
    puts = own_queue o.0 (links.1 i li (λ e. prev_other n i two li (sym e)));
    rest = λ j lj ne far. same_queue j lj ne (links.1 j lj far);
  }
  moves_of (Got m) links (inr k) = (let e = k.1 in cc)

  -- ---- what of it is seen in a term

  module _ (taken put : Option Load) (moves : Moves n i (queue c) (queue d) (debt taken) (debt put))
      (rises : (d.state i).term ≡ (c.state i).term + resets (debt taken)) where
    -- the next node's term, where that isn't node i
    next_term : (j : ℕ) → j < n → next n j ≢ i → (d.state (next n j)).term ≡ (c.state (next n j)).term
    next_term j lj ne = term_is _ _ (others (next n j) (next_below n j lj) ne)

    not_prev : (j : ℕ) → j < n → j ≢ prev n i → next n j ≢ i
    not_prev j lj ne e = ne (prev_next n i j li lj e)

    -- the messages of the term move as the loads do
    pub moved : (term : ℕ)
        → Moves n i (messages_of n term c) (messages_of n term d) (of_term term (c.state i).term (debt taken))
        (of_term term ((c.state (next n i)).term + resets (queue c i)) (debt put))
    moved term =
        let home : next n (prev n i) ≡ i = next_prev n i li in
        record {
          gets = ap (of_term term (c.state (next n (prev n i))).term) moves.gets
              ∙ ap (λ (k : ℕ). of_term term (c.state k).term (debt taken ++ queue d (prev n i))) home
              ∙ of_more term (c.state i).term (debt taken) (queue d (prev n i))
              ∙ ap (λ (t : ℕ). of_term term (c.state i).term (debt taken) ++ of_term term t (queue d (prev n i)))
              (sym rises)
              ∙ ap (λ (k : ℕ). of_term term (c.state i).term (debt taken)
              ++ of_term term (d.state k).term (queue d (prev n i))) (sym home);
          puts = ap (of_term term (d.state (next n i)).term) moves.puts
              ∙ ap (λ (t : ℕ). of_term term t (queue c i ++ debt put)) (next_term i li (next_other n i two li))
              ∙ of_more term (c.state (next n i)).term (queue c i) (debt put);
          rest = λ j lj ne far. ap (of_term term (d.state (next n j)).term) (moves.rest j lj ne far)
              ∙ ap (λ (t : ℕ). of_term term t (queue c j)) (next_term j lj (not_prev j lj far));
        }

    -- the resets that end a term on the queues
    pub moved_reset : (term j h : ℕ) → j < n → IsResetOn term (d.state (next n j)).term (queue d j) h
        → IsResetOn term (c.state (next n j)).term (queue c j) h
        ⊎ ((j ≡ i) × (put ≡ Some (Reset h)) × ((c.state (next n i)).term + resets (queue c i) ≡ term))
    moved_reset term j h lj is = elim (cases_eq j i) [
      | inl e ↦
          let here : IsResetOn term (d.state (next n i)).term (queue d i) h =
          subst (λ (k : ℕ). IsResetOn term (d.state (next n k)).term (queue d k) h) e is in
          let there : IsResetOn term (c.state (next n i)).term (queue c i ++ debt put) h =
          subst (λ (t : ℕ). IsResetOn term t (queue c i ++ debt put) h) (next_term i li (next_other n i two li))
          (subst (λ (ls : List Load). IsResetOn term (d.state (next n i)).term ls h) moves.puts here) in
          elim (reset_more term (c.state (next n i)).term (queue c i) put h there) [
            | inl b ↦ inl (subst (λ (k : ℕ). IsResetOn term (c.state (next n k)).term (queue c k) h) (sym e) b)
            | inr q ↦ inr (e, q.0, q.1)
          ]
      | inr ne ↦ elim (cases_eq j (prev n i)) [
        | inl e ↦
            let home : next n (prev n i) ≡ i = next_prev n i li in
            let here : IsResetOn term (d.state i).term (queue d (prev n i)) h =
            subst (λ (k : ℕ). IsResetOn term (d.state k).term (queue d (prev n i)) h) home
            (subst (λ (k : ℕ). IsResetOn term (d.state (next n k)).term (queue d k) h) e is) in
            let more : IsResetOn term (c.state i).term (queue c (prev n i)) h =
            subst (λ (ls : List Load). IsResetOn term (c.state i).term ls h) (sym moves.gets)
            (reset_behind term (c.state i).term taken (queue d (prev n i)) h
            (subst (λ (t : ℕ). IsResetOn term t (queue d (prev n i)) h) rises here)) in
            inl (subst (λ (k : ℕ). IsResetOn term (c.state (next n k)).term (queue c k) h) (sym e)
            (subst (λ (k : ℕ). IsResetOn term (c.state k).term (queue c (prev n i)) h) (sym home) more))
        | inr far ↦ inl (subst (λ (t : ℕ). IsResetOn term t (queue c j) h) (next_term j lj (not_prev j lj far))
            (subst (λ (ls : List Load). IsResetOn term (d.state (next n j)).term ls h) (moves.rest j lj ne far) is))
      ]
    ]

    -- one that is received stood on the queue
    pub reset_was : (term h : ℕ) → taken ≡ Some (Reset h) → (c.state i).term ≡ term
        → IsResetOn term (c.state (next n (prev n i))).term (queue c (prev n i)) h
    reset_was term h is now =
        let there : queue c (prev n i) ≡ Reset h ∷ queue d (prev n i) =
        moves.gets ∙ ap (λ o. debt o ++ queue d (prev n i)) is in
        subst (λ (k : ℕ). IsResetOn term (c.state k).term (queue c (prev n i)) h) (sym (next_prev n i li))
        (subst (λ (ls : List Load). IsResetOn term (c.state i).term ls h) (sym there) (inl (now, refl)))

    -- the terms stay even
    pub stay_even : (d.state i).term + yielding (d.state i).phase
        ≡ (c.state i).term + yielding (c.state i).phase + resets (debt put) → AreTermsEven n c → AreTermsEven n d
    stay_even makes even j lj = elim (cases_eq j i) [
      | inl e ↦
          let more : resets (queue d i) ≡ resets (queue c i) + resets (debt put) =
          ap resets moves.puts ∙ resets_append (queue c i) (debt put) in
          let P : ℕ → Type 0 = λ k. (d.state (next n k)).term + resets (queue d k)
          ≡ (d.state k).term + yielding (d.state k).phase in
          subst P (sym e) (omega (arith, even i li, next_term i li (next_other n i two li)))
      | inr ne ↦ elim (cases_eq j (prev n i)) [
        | inl e ↦
            let home : next n (prev n i) ≡ i = next_prev n i li in
            let lp = prev_below n i li in
            let less : resets (queue c (prev n i)) ≡ resets (debt taken) + resets (queue d (prev n i)) =
            ap resets moves.gets ∙ resets_append (debt taken) (queue d (prev n i)) in
            let old : (c.state i).term + resets (queue c (prev n i))
            ≡ (c.state (prev n i)).term + yielding (c.state (prev n i)).phase =
            subst (λ (k : ℕ). (c.state k).term + resets (queue c (prev n i))
            ≡ (c.state (prev n i)).term + yielding (c.state (prev n i)).phase) home (even (prev n i) lp) in
            let same = others (prev n i) lp (prev_other n i two li) in
            let P : ℕ → Type 0 = λ k. (d.state (next n k)).term + resets (queue d k)
            ≡ (d.state k).term + yielding (d.state k).phase in
            let Q : ℕ → Type 0 = λ k. (d.state k).term + resets (queue d (prev n i))
            ≡ (d.state (prev n i)).term + yielding (d.state (prev n i)).phase in
            subst P (sym e) (subst Q (sym home) (omega (
              arith,
              term_is _ _ same,
              ap yielding (phase_is _ _ same),
            )))
        | inr far ↦
            let same = others j lj ne in
            omega (
              arith,
              even j lj,
              next_term j lj (not_prev j lj far),
              ap resets (moves.rest j lj ne far),
              term_is _ _ same,
              ap yielding (phase_is _ _ same),
            )
      ]
    ]

  pub moves : (e : Event) → RingStep n i e c d → Settled (c.state i).phase (c.state i).owed
      → Moves n i (queue c) (queue d) (debt (receipt e)) (debt (d.state i).owed)
  moves e step h = moves_of e step.links (owes_or_sends n (c.state i) e (d.state i) h step.node)
