-- Each step is of the kind that the state wants, a step of that kind is there, and what the want says of the state.
use Rattle.std.proofs.Common.{◌≡◌, ◌≢◌, ℕ, ◌+◌, ◌<◌, ◌≤◌, ◌⊎◌, inl, inr, Option, Some, None, Bool, true, false, refl}
use Rattle.std.proofs.Common.{◌∙◌, ap, subst, arith, nat_lt}
use Rattle.std.proofs.lemmas.Bool.Decides.{nat_tests}
use Rattle.ira_event.specs.RingSize.{IsRingSize}
use Rattle.ira_event.specs.Limits.{MAX_NUMBER}
use Rattle.ira_event.specs.declared.msg.Msg.{Msg}
use Rattle.ira_event.specs.declared.load.Load.{Load}
use Rattle.ira_event.specs.declared.load.Load.TheVariants.{Msg as Message, Reset}
use Rattle.ira_event.specs.Event.{is_number}
use Rattle.ira_event.specs.declared.event.Event.{Event}
use Rattle.ira_event.specs.declared.event.Event.TheVariants.{Draw, Sent, Got, Yield}
use Rattle.ira_node.specs.declared.phase.Phase.{Phase}
use Rattle.ira_node.specs.declared.phase.Phase.TheVariants.{Choosing, Active, Passive, Leader, Yielding}
use Rattle.ira_node.specs.declared.node_state.NodeState.{NodeState}
use Rattle.ira_node.specs.declared.wanted.Wanted.{Wanted}
use Rattle.ira_node.specs.declared.wanted.Wanted.TheVariants.{Draw as WantsDraw, Send, Receipt, Yield as WantsYield}
use Rattle.ira_node.specs.declared.wanted.Wanted.TheVariants.{Nothing}
use Rattle.ira_node.specs.Msg.{first_message, raised, dirtied, IsGreater, IsLess, IsEqual}
use Rattle.ira_node.specs.NodeState.{free, owing, IsLeader, Receives}
use Rattle.ira_node.specs.NodeStep.{NodeStep, sends, draws, passes, gives_in, purges, meets, ties, wins, yields}
use Rattle.ira_node.specs.NodeStep.{restarts, comes_home, HasStep}
use Rattle.ira_node.specs.Wanted.{IsOfKind, CanCome, wanted_leading, wanted_of}

sends_wanted : (term : ℕ) (phase : Phase) (l : Load) → ¬ (IsLeader phase)
    → IsOfKind (wanted_of term phase (Some l)) (Sent l)
sends_wanted term (Choosing round) l runs = refl
sends_wanted term (Active round id) l runs = refl
sends_wanted term Passive l runs = refl
sends_wanted term (Leader round id) l runs = absurd (runs tt)
sends_wanted term Yielding l runs = refl

-- a leader that may yield wants to
pub leader_wants_yield : (term : ℕ) (phase : Phase) (owed : Option Load) → IsLeader phase → term < MAX_NUMBER
    → wanted_of term phase owed ≡ WantsYield
leader_wants_yield term (Choosing round) owed leads low = absurd leads
leader_wants_yield term (Active round id) owed leads low = absurd leads
leader_wants_yield term Passive owed leads low = absurd leads
leader_wants_yield term (Leader round id) owed leads low = let may : nat_lt term MAX_NUMBER ≡ true =
    grind (arith, nat_tests) in rw may refl
leader_wants_yield term Yielding owed leads low = absurd leads

yields_wanted : (term : ℕ) (phase : Phase) (owed : Option Load) → IsLeader phase → term < MAX_NUMBER
    → IsOfKind (wanted_of term phase owed) Yield
yields_wanted term phase owed leads low = rw (leader_wants_yield term phase owed leads low) tt

pub step_wanted : (n : ℕ) (s : NodeState) (e : Event) (t : NodeState) → NodeStep n s e t
    → IsOfKind (wanted_of s.term s.phase s.owed) e
step_wanted n s e t (sends l runs o ee et) = rw (o, ee) (sends_wanted s.term s.phase l runs)
step_wanted n s e t (draws term round d es ee lo hi et) = rw (es, ee) tt
step_wanted n s e t (passes term m es ee h et) = rw (es, ee) tt
step_wanted n s e t (gives_in term round id m es ee g h et) = rw (es, ee) tt
step_wanted n s e t (purges term round id m es ee g et) = rw (es, ee) tt
step_wanted n s e t (meets term round id m es ee g h k et) = rw (es, ee) tt
step_wanted n s e t (ties term round id m es ee g h d k et) = rw (es, ee) tt
step_wanted n s e t (wins term round id m es ee g h d et) = rw (es, ee) tt
step_wanted n s e t (yields leads ee low et) = rw ee (yields_wanted s.term s.phase s.owed leads low)
step_wanted n s e t (restarts term h es ee below low et) = rw (es, ee) tt
step_wanted n s e t (comes_home term es ee low et) = rw (es, ee) tt

-- a pair is greater than another, less, or equal
compares : (m : Msg) (round id : ℕ) → IsGreater m round id ⊎ IsLess m round id ⊎ IsEqual m round id
compares m round id = grind arith

-- an active node has a step at the receipt of a message with hop 1
active_receives : (n term round id : ℕ) (m : Msg) → 2 ≤ n → m.hop ≡ 1 → IsGreater m round id ⊎ IsLess m round id
    ⊎ IsEqual m round id → HasStep n (free term (Active round id)) (Got (Message m))
active_receives n term round id m h one (inl greater) =
    (owing term Passive (Message (raised m)), gives_in term round id m refl refl greater (omega arith) refl)
active_receives n term round id m h one (inr (inl less)) =
    (free term (Active round id), purges term round id m refl refl less refl)
active_receives n term round id m h one (inr (inr same)) = (
  owing term (Active round id) (Message (dirtied m)),
  meets term round id m refl refl same (omega arith) (omega arith) refl,
)

ring_is_number : (n : ℕ) → IsRingSize n → is_number n ≡ true
ring_is_number n size = let few : n ≤ MAX_NUMBER = omega (arith, size.1) in let some : 2 ≤ n = size.0 in
    grind (arith, nat_tests)

-- a leader's want can come, whether it may yield or not
leading_can_come : (n term round id : ℕ) (owed : Option Load) (b : Bool) → nat_lt term MAX_NUMBER ≡ b
    → CanCome n (record { phase = Leader round id; owed = owed; term = term }) (wanted_leading term)
leading_can_come n term round id owed true may =
    let low : term < MAX_NUMBER = grind (arith, nat_tests) in
    rw may (owing term Yielding (Reset 1), yields tt refl low refl)
leading_can_come n term round id owed false may =
    let none : wanted_leading term ≡ Nothing = rw may refl in
    rw none (λ e h. let k = step_wanted n (record { phase = Leader round id; owed = owed; term = term }) e h.0 h.1 in
    subst (λ (w : Wanted). IsOfKind w e) none k)

-- what is wanted can come
can_come_of : (n term : ℕ) (phase : Phase) (owed : Option Load) → IsRingSize n
    → CanCome n (record { phase = phase; owed = owed; term = term }) (wanted_of term phase owed)
can_come_of n term (Choosing round) None size =
    λ id low high. (
      owing term (Active round id) (Message (first_message round id)),
      draws term round id refl refl low high refl,
    )
can_come_of n term (Active round id) None size = λ next. (
  Message (first_message 1 1),
  refl,
  active_receives n term round id (first_message 1 1) size.0 refl (compares (first_message 1 1) round id),
)
can_come_of n term Passive None size =
    λ next. (
      Message (first_message 1 1),
      refl,
      (
        owing term Passive (Message (raised (first_message 1 1))),
        passes term (first_message 1 1) refl refl (omega arith) refl,
      ),
    )
can_come_of n term Yielding None size =
    λ next. (Reset n, ring_is_number n size, (free (term + 1) (Choosing 1), comes_home term refl refl (next refl) refl))
can_come_of n term (Choosing round) (Some l) size = (free term (Choosing round), sends l (λ h. h) refl refl refl)
can_come_of n term (Active round id) (Some l) size = (free term (Active round id), sends l (λ h. h) refl refl refl)
can_come_of n term Passive (Some l) size = (free term Passive, sends l (λ h. h) refl refl refl)
can_come_of n term Yielding (Some l) size = (free term Yielding, sends l (λ h. h) refl refl refl)
can_come_of n term (Leader round id) owed size = leading_can_come n term round id owed (nat_lt term MAX_NUMBER) refl

pub can_come : (n : ℕ) (s : NodeState) (w : Wanted) → w ≡ wanted_of s.term s.phase s.owed → IsRingSize n → CanCome n s w
can_come n s w is size = rw is (can_come_of n s.term s.phase s.owed size)

-- ---- what a state's want says of it

-- a leader wants a yield or nothing
leading_cases : (w : Wanted) (term : ℕ) (b : Bool) → nat_lt term MAX_NUMBER ≡ b → w ≡ wanted_leading term
    → w ≢ WantsYield → w ≢ Nothing → ⊥
leading_cases w term true may is yields_not nor = yields_not (is ∙ rw may refl)
leading_cases w term false may is yields_not nor = nor (is ∙ rw may refl)

leading_wants : (w : Wanted) (term : ℕ) → w ≡ wanted_leading term → w ≢ WantsYield → w ≢ Nothing → ⊥
leading_wants w term is yields_not nor = leading_cases w term (nat_lt term MAX_NUMBER) refl is yields_not nor

-- a node that is to draw chooses, and owes nothing
pub wants_draw : (term : ℕ) (phase : Phase) (owed : Option Load) → WantsDraw ≡ wanted_of term phase owed → (round : ℕ)
    × (record { phase = phase; owed = owed; term = term } ≡ free term (Choosing round))
wants_draw term (Choosing round) None h = (round, refl)
wants_draw term (Active round id) None h = cc
wants_draw term Passive None h = cc
wants_draw term (Choosing round) (Some m) h = cc
wants_draw term (Active round id) (Some m) h = cc
wants_draw term Passive (Some m) h = cc
wants_draw term (Leader round id) owed h = absurd (leading_wants WantsDraw term h (λ e. cc) (λ e. cc))
wants_draw term Yielding None h = cc
wants_draw term Yielding (Some m) h = cc

-- a node that is to receive owes nothing
pub wants_receipt : (term : ℕ) (phase : Phase) (owed : Option Load) → Receipt ≡ wanted_of term phase owed
    → (owed ≡ None) × Receives phase
wants_receipt term (Choosing round) None h = cc
wants_receipt term (Active round id) None h = (refl, tt)
wants_receipt term Passive None h = (refl, tt)
wants_receipt term (Choosing round) (Some m) h = cc
wants_receipt term (Active round id) (Some m) h = cc
wants_receipt term Passive (Some m) h = cc
wants_receipt term (Leader round id) owed h = absurd (leading_wants Receipt term h (λ e. cc) (λ e. cc))
wants_receipt term Yielding None h = (refl, tt)
wants_receipt term Yielding (Some m) h = cc

-- a node that is to send owes the load
pub wants_send : (term : ℕ) (phase : Phase) (owed : Option Load) (l : Load) → Send l ≡ wanted_of term phase owed
    → owed ≡ Some l
wants_send term (Choosing round) None m h = cc
wants_send term (Active round id) None m h = cc
wants_send term Passive None m h = cc
wants_send term (Choosing round) (Some k) m h = cc
wants_send term (Active round id) (Some k) m h = cc
wants_send term Passive (Some k) m h = cc
wants_send term (Leader round id) owed m h = absurd (leading_wants (Send m) term h (λ e. cc) (λ e. cc))
wants_send term Yielding None m h = cc
wants_send term Yielding (Some k) m h = cc

-- a node that is to send doesn't lead
pub owing_leads_not : (term : ℕ) (phase : Phase) (owed : Option Load) (l : Load) → Send l ≡ wanted_of term phase owed
    → ¬ (IsLeader phase)
owing_leads_not term (Choosing round) owed m wants l = l
owing_leads_not term (Active round id) owed m wants l = l
owing_leads_not term Passive owed m wants l = l
owing_leads_not term (Leader round id) owed m wants l = absurd (leading_wants (Send m) term wants (λ e. cc) (λ e. cc))
owing_leads_not term Yielding owed m wants l = l

-- a node that receives doesn't lead
pub receiving_leads_not : (phase : Phase) → Receives phase → ¬ (IsLeader phase)
receiving_leads_not (Choosing round) r l = r
receiving_leads_not (Active round id) r l = l
receiving_leads_not Passive r l = l
receiving_leads_not (Leader round id) r l = r
receiving_leads_not Yielding r l = l

-- ---- the next event, by what the state before it is

-- a node that chooses draws next
drawing : (e : Event) → IsOfKind WantsDraw e → (id : ℕ) × (e ≡ Draw id)
drawing (Draw id) h = (id, refl)
drawing (Sent l) h = absurd h
drawing (Got l) h = absurd h
drawing Yield h = absurd h

pub choosing_draws : (n term round : ℕ) (s : NodeState) (e : Event) → s ≡ free term (Choosing round) → HasStep n s e
    → (id : ℕ) × (e ≡ Draw id)
choosing_draws n term round s e is step =
    let P : NodeState → Type 0 = λ x. IsOfKind (wanted_of x.term x.phase x.owed) e in
    drawing e (subst P is (step_wanted n s e step.0 step.1))

-- a node that waits receives next
receiving : (e : Event) → IsOfKind Receipt e → (l : Load) × (e ≡ Got l)
receiving (Draw id) h = absurd h
receiving (Sent l) h = absurd h
receiving (Got l) h = (l, refl)
receiving Yield h = absurd h

waiting_wants_receipt : (term : ℕ) (phase : Phase) (owed : Option Load) → owed ≡ None → Receives phase
    → wanted_of term phase owed ≡ Receipt
waiting_wants_receipt term (Choosing round) owed is r = absurd r
waiting_wants_receipt term (Active round id) owed is r = ap (wanted_of term (Active round id)) is
waiting_wants_receipt term Passive owed is r = ap (wanted_of term Passive) is
waiting_wants_receipt term (Leader round id) owed is r = absurd r
waiting_wants_receipt term Yielding owed is r = ap (wanted_of term Yielding) is

pub waiting_receives : (n : ℕ) (s : NodeState) (e : Event) → s.owed ≡ None → Receives s.phase → HasStep n s e
    → (l : Load) × (e ≡ Got l)
waiting_receives n s e is r step =
    let P : Wanted → Type 0 = λ w. IsOfKind w e in
    receiving e (subst P (waiting_wants_receipt s.term s.phase s.owed is r) (step_wanted n s e step.0 step.1))

-- a leader yields next
leading_may : (term : ℕ) → nat_lt term MAX_NUMBER ≡ true → wanted_leading term ≡ WantsYield
leading_may term may = rw may refl

leading_last : (term : ℕ) → nat_lt term MAX_NUMBER ≡ false → wanted_leading term ≡ Nothing
leading_last term last = rw last refl

yielding : (term : ℕ) (e : Event) (b : Bool) → nat_lt term MAX_NUMBER ≡ b → IsOfKind (wanted_leading term) e → e ≡ Yield
yielding term (Draw id) true may h = absurd (subst (λ (w : Wanted). IsOfKind w (Draw id)) (leading_may term may) h)
yielding term (Sent l) true may h = absurd (subst (λ (w : Wanted). IsOfKind w (Sent l)) (leading_may term may) h)
yielding term (Got l) true may h = absurd (subst (λ (w : Wanted). IsOfKind w (Got l)) (leading_may term may) h)
yielding term Yield true may h = refl
yielding term e false may h = absurd (subst (λ (w : Wanted). IsOfKind w e) (leading_last term may) h)

leading_yields_of : (term : ℕ) (phase : Phase) (owed : Option Load) (e : Event) → IsLeader phase
    → IsOfKind (wanted_of term phase owed) e → e ≡ Yield
leading_yields_of term (Choosing round) owed e leads h = absurd leads
leading_yields_of term (Active round id) owed e leads h = absurd leads
leading_yields_of term Passive owed e leads h = absurd leads
leading_yields_of term (Leader round id) owed e leads h = yielding term e (nat_lt term MAX_NUMBER) refl h
leading_yields_of term Yielding owed e leads h = absurd leads

pub leading_yields : (n : ℕ) (s : NodeState) (e : Event) → IsLeader s.phase → HasStep n s e → e ≡ Yield
leading_yields n s e leads step = leading_yields_of s.term s.phase s.owed e leads (step_wanted n s e step.0 step.1)
