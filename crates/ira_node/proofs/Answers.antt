-- The function `answer` gives the one step or the one fault that the relations have.
use Rattle.std.proofs.Common.{◌≡◌, ◌≢◌, ℕ, ◌+◌, ◌<◌, ◌≤◌, ◌⊎◌, inl, inr, Bool, true, false, ◌&&◌, not, nat_lt, nat_eq}
use Rattle.std.proofs.Common.{◌↔◌, Option, Some, None, Result, Ok, Err, MatchResult, refl, sym, ◌∙◌, subst, ap, arith}
use Rattle.std.proofs.lemmas.Bool.{cond_both, false_from_ne_true}
use Rattle.std.proofs.lemmas.Bool.Decides.{nat_tests}
use Rattle.ira_event.specs.Limits.{MAX_NUMBER}
use Rattle.ira_event.specs.declared.msg.Msg.{Msg}
use Rattle.ira_event.specs.declared.load.Load.{Load}
use Rattle.ira_event.specs.declared.load.Load.TheVariants.{Msg as Message, Reset}
use Rattle.ira_event.specs.declared.event.Event.{Event}
use Rattle.ira_event.specs.declared.event.Event.TheVariants.{Draw, Sent, Got, Yield}
use Rattle.ira_node.specs.declared.phase.Phase.{Phase}
use Rattle.ira_node.specs.declared.phase.Phase.TheVariants.{Choosing, Active, Passive, Leader, Yielding}
use Rattle.ira_node.specs.declared.node_state.NodeState.{NodeState}
use Rattle.ira_node.specs.declared.step_fault.StepFault.{StepFault}
use Rattle.ira_node.specs.declared.step_fault.StepFault.TheVariants.{Owes, MustDraw, NotChoosing, DrawRange, Ended}
use Rattle.ira_node.specs.declared.step_fault.StepFault.TheVariants.{HopPast, RoundLimit, HopLimit, WrongReset}
use Rattle.ira_node.specs.declared.step_fault.StepFault.TheVariants.{TermLimit}
use Rattle.ira_node.specs.Msg.{first_message, raised, dirtied, IsGreater, IsLess, IsEqual}
use Rattle.ira_node.specs.NodeState.{free, owing, IsLeader, Receives}
use Rattle.ira_node.specs.NodeStep.{NodeStep, sends, draws, passes, gives_in, purges, meets, ties, wins, yields}
use Rattle.ira_node.specs.NodeStep.{restarts, comes_home, HasStep}
use Rattle.ira_node.specs.NodeStepFault.{IsSending, PassesOn, IsDue, NodeStepFault, ended, last_yield, owes, another}
use Rattle.ira_node.specs.NodeStepFault.{nothing_owed, not_leader, must_draw, draw_range, not_choosing, hop_limit}
use Rattle.ira_node.specs.NodeStepFault.{hop_past, round_limit, wrong_reset, last_reset, not_reset}
use Rattle.ira_node.specs.StepAnswer.{advance_answer, same_msg, same_load, is_greater, is_less, own_pair_answer, passed}
use Rattle.ira_node.specs.StepAnswer.{compared, message_answer, message_fault, restart_answer, drawn_answer}
use Rattle.ira_node.specs.StepAnswer.{free_answer, leading_answer, sent_answer, step_answer, answer}

-- an answer is a step or a fault of the relations
abbrev Judged : ℕ → NodeState → Event → Result NodeState StepFault → Type 0
Judged n s e r = MatchResult r (λ t. NodeStep n s e t) (λ f. NodeStepFault n s e f)

-- ---- what the tests mean

greater_means : (m : Msg) (round id : ℕ) → is_greater m round id ≡ true → IsGreater m round id
greater_means m round id h = grind (arith, nat_tests)

pub less_means : (m : Msg) (round id : ℕ) → is_less m round id ≡ true → IsLess m round id
less_means m round id h = grind (arith, nat_tests)

equal_means : (m : Msg) (round id : ℕ) → is_greater m round id ≡ false → is_less m round id ≡ false → IsEqual m round id
equal_means m round id h k = grind (arith, nat_tests)

below_means : (a b : ℕ) → nat_lt a b ≡ true → a < b
below_means a b h = grind (arith, nat_tests)

reaches_means : (a b : ℕ) → nat_lt a b ≡ false → b ≤ a
reaches_means a b h = grind (arith, nat_tests)

range_means : (n d : ℕ) → (nat_lt 0 d && not (nat_lt n d)) ≡ true → (1 ≤ d) × (d ≤ n)
range_means n d h = (grind (arith, nat_tests), grind (arith, nat_tests))

off_range_means : (n d : ℕ) → (nat_lt 0 d && not (nat_lt n d)) ≡ false → (d < 1) ⊎ (n < d)
off_range_means n d h = grind (arith, nat_tests)

same_means : (k m : Msg) → same_msg k m ≡ true → k ≡ m
same_means k m h = grind (arith, nat_tests)

same_itself : (m : Msg) → same_msg m m ≡ true
same_itself m = grind (arith, nat_tests)

same_load_means : (k l : Load) → same_load k l ≡ true → k ≡ l
same_load_means (Message k) (Message m) h = ap Message (same_means k m h)
same_load_means (Reset g) (Reset h) t = ap Reset (let e : g ≡ h = grind (arith, nat_tests) in e)
same_load_means (Message k) (Reset h) t = absurd cc
same_load_means (Reset h) (Message m) t = absurd cc

same_load_itself : (l : Load) → same_load l l ≡ true
same_load_itself (Message m) = same_itself m
same_load_itself (Reset h) = grind (arith, nat_tests)

loads_decided_by : (k l : Load) (b : Bool) → same_load k l ≡ b → (k ≡ l) ⊎ (k ≢ l)
loads_decided_by k l true same = inl (same_load_means k l same)
loads_decided_by k l false other = inr (λ e. cc (subst (λ x. same_load x l ≡ true) (sym e) (same_load_itself l), other))

-- two loads are equal or not
pub loads_decided : (k l : Load) → (k ≡ l) ⊎ (k ≢ l)
loads_decided k l = loads_decided_by k l (same_load k l) refl

other_load : (l k : Load) → k ≢ l → same_load k l ≡ false
other_load l k ne = false_from_ne_true (same_load k l) (λ h. ne (same_load_means k l h))

-- a node that is neither active nor passive takes no message
pub takes_none : (n term : ℕ) (phase : Phase) (m : Msg) → ((round id : ℕ) → phase ≢ Active round id) → phase ≢ Passive
    → Err (message_fault phase) ≡ message_answer n term phase m
takes_none n term (Choosing round) m active passive = refl
takes_none n term (Active round id) m active passive = absurd (active round id refl)
takes_none n term Passive m active passive = absurd (passive refl)
takes_none n term (Leader round id) m active passive = refl
takes_none n term Yielding m active passive = refl

-- ---- each answer is a step or a fault

judged_own : (n term round id : ℕ) (m : Msg) → IsEqual m round id
    → Judged n (free term (Active round id)) (Got (Message m)) (own_pair_answer n term round id m)
judged_own n term round id m same =
    let J : Result NodeState StepFault → Type 0 = Judged n (free term (Active round id)) (Got (Message m)) in
    cond_both (nat_lt m.hop n) _ _ J
    (λ short. cond_both (nat_lt m.hop MAX_NUMBER) _ _ J
    (λ low. meets term round id m refl refl same (below_means m.hop n short) (below_means m.hop MAX_NUMBER low) refl)
    (λ high. hop_limit m refl refl (inr (same, below_means m.hop n short)) (reaches_means m.hop MAX_NUMBER high) refl))
    (λ far. cond_both (nat_lt n m.hop) _ _ J
    (λ past. hop_past term round id m refl refl same (below_means n m.hop past) refl)
    (λ near.
    let whole : m.hop ≡ n = omega (arith, reaches_means m.hop n far, reaches_means n m.hop near) in
    cond_both m.dirty _ _ J
    (λ dirty. cond_both (nat_lt round MAX_NUMBER) _ _ J
    (λ low. ties term round id m refl refl same whole dirty (below_means round MAX_NUMBER low) refl)
    (λ high. round_limit term round id m refl refl same whole dirty (reaches_means round MAX_NUMBER high) refl))
    (λ clean. wins term round id m refl refl same whole clean refl)))

judged_compared : (n term round id : ℕ) (m : Msg)
    → Judged n (free term (Active round id)) (Got (Message m)) (compared n term round id m)
judged_compared n term round id m =
    let J : Result NodeState StepFault → Type 0 = Judged n (free term (Active round id)) (Got (Message m)) in
    cond_both (is_greater m round id) _ _ J
    (λ greater. cond_both (nat_lt m.hop MAX_NUMBER) _ _ J
    (λ low. gives_in term round id m refl refl (greater_means m round id greater) (below_means m.hop MAX_NUMBER low)
    refl)
    (λ high. hop_limit m refl refl (inl (greater_means m round id greater)) (reaches_means m.hop MAX_NUMBER high) refl))
    (λ upto. cond_both (is_less m round id) _ _ J
    (λ less. purges term round id m refl refl (less_means m round id less) refl)
    (λ same. judged_own n term round id m (equal_means m round id upto same)))

judged_sent : (n term : ℕ) (phase : Phase) (l k : Load) → ¬ (IsLeader phase)
    → Judged n (owing term phase l) (Sent k) (sent_answer term phase l (Sent k))
judged_sent n term phase l k runs =
    cond_both (same_load k l) _ _ (Judged n (owing term phase l) (Sent k))
    (λ same. sends l runs refl (ap Sent (same_load_means k l same)) refl)
    (λ other. another l k runs refl refl (λ e.
    cc (subst (λ x. same_load x l ≡ true) (sym e) (same_load_itself l), other)) refl)

judged_owing : (n term : ℕ) (phase : Phase) (l : Load) (e : Event) → ¬ (IsLeader phase)
    → Judged n (owing term phase l) e (sent_answer term phase l e)
judged_owing n term phase l (Draw d) runs = owes l runs refl (λ h. h) refl
judged_owing n term phase l (Sent k) runs = judged_sent n term phase l k runs
judged_owing n term phase l (Got k) runs = owes l runs refl (λ h. h) refl
judged_owing n term phase l Yield runs = owes l runs refl (λ h. h) refl

judged_drawn : (n term round d : ℕ)
    → Judged n (free term (Choosing round)) (Draw d) (drawn_answer n term (Choosing round) d)
judged_drawn n term round d =
    cond_both (nat_lt 0 d && not (nat_lt n d)) _ _ (Judged n (free term (Choosing round)) (Draw d))
    (λ h. draws term round d refl refl (range_means n d h).0 (range_means n d h).1 refl)
    (λ h. draw_range term round d refl refl (off_range_means n d h) refl)

judged_passed : (n term : ℕ) (m : Msg) → Judged n (free term Passive) (Got (Message m)) (passed term m)
judged_passed n term m =
    cond_both (nat_lt m.hop MAX_NUMBER) _ _ (Judged n (free term Passive) (Got (Message m)))
    (λ low. passes term m refl refl (below_means m.hop MAX_NUMBER low) refl)
    (λ high. hop_limit m refl refl tt (reaches_means m.hop MAX_NUMBER high) refl)

equal_is : (a b : ℕ) → nat_eq a b ≡ true → a ≡ b
equal_is a b h = grind (arith, nat_tests)

equal_not : (a b : ℕ) → nat_eq a b ≡ false → a ≢ b
equal_not a b h e = let t : nat_eq a b ≡ true = grind (arith, nat_tests) in cc

judged_passing : (n term h : ℕ) → Judged n (free term Passive) (Got (Reset h)) (restart_answer n term Passive h)
judged_passing n term h =
    let J : Result NodeState StepFault → Type 0 = Judged n (free term Passive) (Got (Reset h)) in
    cond_both (nat_lt h n) _ _ J
    (λ due. cond_both (nat_lt term MAX_NUMBER) _ _ J
    (λ low. restarts term h refl refl (below_means h n due) (below_means term MAX_NUMBER low) refl)
    (λ high. last_reset h refl refl (below_means h n due) (reaches_means term MAX_NUMBER high) refl))
    (λ far. wrong_reset h tt refl refl (λ due. omega (arith, due, reaches_means h n far)) refl)

judged_home : (n term h : ℕ) → Judged n (free term Yielding) (Got (Reset h)) (restart_answer n term Yielding h)
judged_home n term h =
    let J : Result NodeState StepFault → Type 0 = Judged n (free term Yielding) (Got (Reset h)) in
    cond_both (nat_eq h n) _ _ J
    (λ due. cond_both (nat_lt term MAX_NUMBER) _ _ J
    (λ low. comes_home term refl (ap (λ x. Got (Reset x)) (equal_is h n due)) (below_means term MAX_NUMBER low) refl)
    (λ high. last_reset h refl refl (equal_is h n due) (reaches_means term MAX_NUMBER high) refl))
    (λ far. wrong_reset h tt refl refl (equal_not h n far) refl)

judged_free : (n term : ℕ) (phase : Phase) (e : Event) → ¬ (IsLeader phase)
    → Judged n (free term phase) e (free_answer n term phase e)
judged_free n term (Leader round id) e runs = absurd (runs tt)
judged_free n term phase (Sent l) runs = nothing_owed l runs refl refl refl
judged_free n term phase Yield runs = not_leader runs refl refl refl
judged_free n term (Choosing round) (Draw d) runs = judged_drawn n term round d
judged_free n term (Choosing round) (Got (Message m)) runs = must_draw term round (Message m) refl refl refl
judged_free n term (Choosing round) (Got (Reset h)) runs = must_draw term round (Reset h) refl refl refl
judged_free n term (Active round id) (Draw d) runs = not_choosing d tt refl refl refl
judged_free n term (Active round id) (Got (Message m)) runs = judged_compared n term round id m
judged_free n term (Active round id) (Got (Reset h)) runs = wrong_reset h tt refl refl (λ due. due) refl
judged_free n term Passive (Draw d) runs = not_choosing d tt refl refl refl
judged_free n term Passive (Got (Message m)) runs = judged_passed n term m
judged_free n term Passive (Got (Reset h)) runs = judged_passing n term h
judged_free n term Yielding (Draw d) runs = not_choosing d tt refl refl refl
judged_free n term Yielding (Got (Message m)) runs = not_reset term m refl refl refl
judged_free n term Yielding (Got (Reset h)) runs = judged_home n term h

judged_leading : (n term round id : ℕ) (owed : Option Load) (e : Event)
    → Judged n (record { phase = Leader round id; owed = owed; term = term }) e (leading_answer term e)
judged_leading n term round id owed (Draw d) = ended tt (λ y. cc) refl
judged_leading n term round id owed (Sent l) = ended tt (λ y. cc) refl
judged_leading n term round id owed (Got l) = ended tt (λ y. cc) refl
judged_leading n term round id owed Yield =
    cond_both (nat_lt term MAX_NUMBER) _ _
    (Judged n (record { phase = Leader round id; owed = owed; term = term }) Yield)
    (λ low. yields tt refl (below_means term MAX_NUMBER low) refl)
    (λ high. last_yield tt refl (reaches_means term MAX_NUMBER high) refl)

judged_of : (n term : ℕ) (phase : Phase) (owed : Option Load) (e : Event)
    → Judged n (record { phase = phase; owed = owed; term = term }) e (step_answer n term phase owed e)
judged_of n term (Leader round id) owed e = judged_leading n term round id owed e
judged_of n term (Choosing round) None e = judged_free n term (Choosing round) e (λ h. h)
judged_of n term (Active round id) None e = judged_free n term (Active round id) e (λ h. h)
judged_of n term Passive None e = judged_free n term Passive e (λ h. h)
judged_of n term Yielding None e = judged_free n term Yielding e (λ h. h)
judged_of n term (Choosing round) (Some l) e = judged_owing n term (Choosing round) l e (λ h. h)
judged_of n term (Active round id) (Some l) e = judged_owing n term (Active round id) l e (λ h. h)
judged_of n term Passive (Some l) e = judged_owing n term Passive l e (λ h. h)
judged_of n term Yielding (Some l) e = judged_owing n term Yielding l e (λ h. h)

pub judged : (n : ℕ) (s : NodeState) (e : Event)
    → MatchResult (answer n s e) (λ t. NodeStep n s e t) (λ f. NodeStepFault n s e f)
judged n s e = judged_of n s.term s.phase s.owed e

-- ---- each step is the answer

gives_in_gives : (n term round id : ℕ) (m : Msg) → IsGreater m round id → m.hop < MAX_NUMBER
    → compared n term round id m ≡ Ok (owing term Passive (Message (raised m)))
gives_in_gives n term round id m g h = grind (arith, nat_tests)

purges_gives : (n term round id : ℕ) (m : Msg) → IsLess m round id
    → compared n term round id m ≡ Ok (free term (Active round id))
purges_gives n term round id m g = grind (arith, nat_tests)

own_gives : (n term round id : ℕ) (m : Msg) → IsEqual m round id
    → compared n term round id m ≡ own_pair_answer n term round id m
own_gives n term round id m g = grind (arith, nat_tests)

meets_gives : (n term round id : ℕ) (m : Msg) → m.hop < n → m.hop < MAX_NUMBER
    → own_pair_answer n term round id m ≡ Ok (owing term (Active round id) (Message (dirtied m)))
meets_gives n term round id m g h = grind (arith, nat_tests)

ties_gives : (n term round id : ℕ) (m : Msg) → m.hop ≡ n → m.dirty ≡ true → round < MAX_NUMBER
    → own_pair_answer n term round id m ≡ Ok (free term (Choosing (round + 1)))
ties_gives n term round id m g h k = grind (arith, nat_tests)

wins_gives : (n term round id : ℕ) (m : Msg) → m.hop ≡ n → m.dirty ≡ false
    → own_pair_answer n term round id m ≡ Ok (free term (Leader round id))
wins_gives n term round id m g h = grind (arith, nat_tests)

draws_gives : (n term round d : ℕ) → 1 ≤ d → d ≤ n
    → drawn_answer n term (Choosing round) d ≡ Ok (owing term (Active round d) (Message (first_message round d)))
draws_gives n term round d g h = grind (arith, nat_tests)

passes_gives : (term : ℕ) (m : Msg) → m.hop < MAX_NUMBER → passed term m ≡ Ok (owing term Passive (Message (raised m)))
passes_gives term m g = grind (arith, nat_tests)

restarts_gives : (n term h : ℕ) → h < n → term < MAX_NUMBER
    → restart_answer n term Passive h ≡ Ok (owing (term + 1) (Choosing 1) (Reset (h + 1)))
restarts_gives n term h below low = grind (arith, nat_tests)

home_gives : (n term : ℕ) → term < MAX_NUMBER → restart_answer n term Yielding n ≡ Ok (free (term + 1) (Choosing 1))
home_gives n term low = grind (arith, nat_tests)

yields_gives : (n term : ℕ) (phase : Phase) (owed : Option Load) → IsLeader phase → term < MAX_NUMBER
    → step_answer n term phase owed Yield ≡ Ok (owing term Yielding (Reset 1))
yields_gives n term (Choosing round) owed leads low = absurd leads
yields_gives n term (Active round id) owed leads low = absurd leads
yields_gives n term Passive owed leads low = absurd leads
yields_gives n term (Leader round id) owed leads low = grind (arith, nat_tests)
yields_gives n term Yielding owed leads low = absurd leads

-- the answer of a node that doesn't lead, by its debt
pub owing_answers : (n term : ℕ) (phase : Phase) (l : Load) (e : Event) → ¬ (IsLeader phase)
    → step_answer n term phase (Some l) e ≡ sent_answer term phase l e
owing_answers n term (Choosing round) l e runs = refl
owing_answers n term (Active round id) l e runs = refl
owing_answers n term Passive l e runs = refl
owing_answers n term (Leader round id) l e runs = absurd (runs tt)
owing_answers n term Yielding l e runs = refl

pub free_answers : (n term : ℕ) (phase : Phase) (e : Event) → ¬ (IsLeader phase)
    → step_answer n term phase None e ≡ free_answer n term phase e
free_answers n term (Choosing round) e runs = refl
free_answers n term (Active round id) e runs = refl
free_answers n term Passive e runs = refl
free_answers n term (Leader round id) e runs = absurd (runs tt)
free_answers n term Yielding e runs = refl

sends_gives : (n term : ℕ) (phase : Phase) (l : Load) → ¬ (IsLeader phase)
    → step_answer n term phase (Some l) (Sent l) ≡ Ok (free term phase)
sends_gives n term phase l runs = owing_answers n term phase l (Sent l) runs ∙ rw (same_load_itself l) refl

pub step_gives : (n : ℕ) (s : NodeState) (e : Event) (t : NodeState) → NodeStep n s e t → answer n s e ≡ Ok t
step_gives n s e t (sends l runs o ee et) = rw (o, ee, et) (sends_gives n s.term s.phase l runs)
step_gives n s e t (draws term round d es ee lo hi et) = rw (es, ee, et) (draws_gives n term round d lo hi)
step_gives n s e t (passes term m es ee h et) = rw (es, ee, et) (passes_gives term m h)
step_gives n s e t (gives_in term round id m es ee g h et) = rw (es, ee, et) (gives_in_gives n term round id m g h)
step_gives n s e t (purges term round id m es ee g et) = rw (et, es, ee) (purges_gives n term round id m g)
step_gives n s e t (meets term round id m es ee g h k et) =
    rw (es, ee, et) (own_gives n term round id m g ∙ meets_gives n term round id m h k)
step_gives n s e t (ties term round id m es ee g h d k et) =
    rw (es, ee, et) (own_gives n term round id m g ∙ ties_gives n term round id m h d k)
step_gives n s e t (wins term round id m es ee g h d et) =
    rw (es, ee, et) (own_gives n term round id m g ∙ wins_gives n term round id m h d)
step_gives n s e t (yields leads ee low et) = rw (ee, et) (yields_gives n s.term s.phase s.owed leads low)
step_gives n s e t (restarts term h es ee below low et) = rw (es, ee, et) (restarts_gives n term h below low)
step_gives n s e t (comes_home term es ee low et) = rw (es, ee, et) (home_gives n term low)

-- ---- each fault is the answer

limited : (n term round id : ℕ) (m : Msg) → IsGreater m round id ⊎ (IsEqual m round id × (m.hop < n))
    → MAX_NUMBER ≤ m.hop → compared n term round id m ≡ Err HopLimit
limited n term round id m r h = grind (arith, nat_tests)

passed_limited : (term : ℕ) (m : Msg) → MAX_NUMBER ≤ m.hop → passed term m ≡ Err HopLimit
passed_limited term m h = grind (arith, nat_tests)

hop_limit_gives : (n term : ℕ) (phase : Phase) (m : Msg) → PassesOn n phase m → MAX_NUMBER ≤ m.hop
    → step_answer n term phase None (Got (Message m)) ≡ Err HopLimit
hop_limit_gives n term (Choosing round) m r h = absurd r
hop_limit_gives n term (Active round id) m r h = limited n term round id m r h
hop_limit_gives n term Passive m r h = passed_limited term m h
hop_limit_gives n term (Leader round id) m r h = absurd r
hop_limit_gives n term Yielding m r h = absurd r

hop_past_gives : (n term round id : ℕ) (m : Msg) → IsEqual m round id → n < m.hop
    → compared n term round id m ≡ Err HopPast
hop_past_gives n term round id m g h = grind (arith, nat_tests)

round_limit_gives : (n term round id : ℕ) (m : Msg) → IsEqual m round id → m.hop ≡ n → m.dirty ≡ true
    → MAX_NUMBER ≤ round → compared n term round id m ≡ Err RoundLimit
round_limit_gives n term round id m g h d k = grind (arith, nat_tests)

draw_range_gives : (n term round d : ℕ) → (d < 1) ⊎ (n < d) → drawn_answer n term (Choosing round) d ≡ Err DrawRange
draw_range_gives n term round d h = grind (arith, nat_tests)

leading_ended : (term : ℕ) (e : Event) → e ≢ Yield → leading_answer term e ≡ Err Ended
leading_ended term (Draw d) other = refl
leading_ended term (Sent l) other = refl
leading_ended term (Got l) other = refl
leading_ended term Yield other = absurd (other refl)

leading_last : (term : ℕ) → MAX_NUMBER ≤ term → leading_answer term Yield ≡ Err TermLimit
leading_last term high = grind (arith, nat_tests)

leading_answers : (n term : ℕ) (phase : Phase) (owed : Option Load) (e : Event) → IsLeader phase
    → step_answer n term phase owed e ≡ leading_answer term e
leading_answers n term (Choosing round) owed e l = absurd l
leading_answers n term (Active round id) owed e l = absurd l
leading_answers n term Passive owed e l = absurd l
leading_answers n term (Leader round id) owed e l = refl
leading_answers n term Yielding owed e l = absurd l

owes_gives : (term : ℕ) (phase : Phase) (l : Load) (e : Event) → ¬ (IsSending e) → sent_answer term phase l e ≡ Err Owes
owes_gives term phase l (Draw d) s = refl
owes_gives term phase l (Sent k) s = absurd (s tt)
owes_gives term phase l (Got k) s = refl
owes_gives term phase l Yield s = refl

not_choosing_gives : (n term : ℕ) (phase : Phase) (d : ℕ) → Receives phase
    → step_answer n term phase None (Draw d) ≡ Err NotChoosing
not_choosing_gives n term (Choosing round) d r = absurd r
not_choosing_gives n term (Active round id) d r = refl
not_choosing_gives n term Passive d r = refl
not_choosing_gives n term (Leader round id) d r = absurd r
not_choosing_gives n term Yielding d r = refl

wrong_gives : (n term : ℕ) (phase : Phase) (h : ℕ) → Receives phase → ¬ (IsDue n phase h)
    → step_answer n term phase None (Got (Reset h)) ≡ Err WrongReset
wrong_gives n term (Choosing round) h r far_off = absurd r
wrong_gives n term (Active round id) h r far_off = refl
wrong_gives n term Passive h r far_off = let far : nat_lt h n ≡ false =
    false_from_ne_true (nat_lt h n) (λ t. far_off (below_means h n t)) in rw far refl
wrong_gives n term (Leader round id) h r far_off = absurd r
wrong_gives n term Yielding h r far_off = let far : nat_eq h n ≡ false =
    false_from_ne_true (nat_eq h n) (λ t. far_off (equal_is h n t)) in rw far refl

last_gives : (n term : ℕ) (phase : Phase) (h : ℕ) → IsDue n phase h → MAX_NUMBER ≤ term
    → step_answer n term phase None (Got (Reset h)) ≡ Err TermLimit
last_gives n term (Choosing round) h due high = absurd due
last_gives n term (Active round id) h due high = absurd due
last_gives n term Passive h due high = grind (arith, nat_tests)
last_gives n term (Leader round id) h due high = absurd due
last_gives n term Yielding h due high = grind (arith, nat_tests)

must_draw_gives : (n term round : ℕ) (l : Load) → step_answer n term (Choosing round) None (Got l) ≡ Err MustDraw
must_draw_gives n term round (Message m) = refl
must_draw_gives n term round (Reset h) = refl

pub fault_gives : (n : ℕ) (s : NodeState) (e : Event) (f : StepFault) → NodeStepFault n s e f → answer n s e ≡ Err f
fault_gives n s e f (ended l other ef) =
    rw ef (leading_answers n s.term s.phase s.owed e l ∙ leading_ended s.term e other)
fault_gives n s e f (last_yield l ee high ef) =
    rw (ee, ef) (leading_answers n s.term s.phase s.owed Yield l ∙ leading_last s.term high)
fault_gives n s e f (owes m l o se ef) =
    rw (o, ef) (owing_answers n s.term s.phase m e l ∙ owes_gives s.term s.phase m e se)
fault_gives n s e f (another m k l o ee ne ef) =
    rw (o, ee, ef) (owing_answers n s.term s.phase m (Sent k) l ∙ rw (other_load m k ne) refl)
fault_gives n s e f (nothing_owed m l o ee ef) = rw (o, ee, ef) (free_answers n s.term s.phase (Sent m) l)
fault_gives n s e f (not_leader l o ee ef) = rw (o, ee, ef) (free_answers n s.term s.phase Yield l)
fault_gives n s e f (must_draw term round m es ee ef) = rw (es, ee, ef) (must_draw_gives n term round m)
fault_gives n s e f (draw_range term round d es ee h ef) = rw (es, ee, ef) (draw_range_gives n term round d h)
fault_gives n s e f (not_choosing d r o ee ef) = rw (o, ee, ef) (not_choosing_gives n s.term s.phase d r)
fault_gives n s e f (hop_limit m o ee r h ef) = rw (o, ee, ef) (hop_limit_gives n s.term s.phase m r h)
fault_gives n s e f (hop_past term round id m es ee g h ef) = rw (es, ee, ef) (hop_past_gives n term round id m g h)
fault_gives n s e f (round_limit term round id m es ee g h d k ef) =
    rw (es, ee, ef) (round_limit_gives n term round id m g h d k)
fault_gives n s e f (wrong_reset h r o ee far_off ef) = rw (o, ee, ef) (wrong_gives n s.term s.phase h r far_off)
fault_gives n s e f (last_reset h o ee due high ef) = rw (o, ee, ef) (last_gives n s.term s.phase h due high)
fault_gives n s e f (not_reset term m es ee ef) = rw (es, ee, ef) refl

-- ---- so the answer is Ok exactly where there is a step, and Err exactly where there is a fault

pub step_exactly : (n : ℕ) (s : NodeState) (e : Event) (r : Result NodeState StepFault) → r ≡ answer n s e
    → (t : NodeState) → (r ≡ Ok t) ↔ NodeStep n s e t
step_exactly n s e r a t = (
  λ h. let J : Result NodeState StepFault → Type 0 = Judged n s e in subst J (sym a ∙ h) (judged n s e),
  λ h. a ∙ step_gives n s e t h,
)

pub fault_exactly : (n : ℕ) (s : NodeState) (e : Event) (r : Result NodeState StepFault) → r ≡ answer n s e
    → (f : StepFault) → (r ≡ Err f) ↔ NodeStepFault n s e f
fault_exactly n s e r a f = (
  λ h. let J : Result NodeState StepFault → Type 0 = Judged n s e in subst J (sym a ∙ h) (judged n s e),
  λ h. a ∙ fault_gives n s e f h,
)

-- so does the answer of a step that changes the state itself
pub advances : (n : ℕ) (s : NodeState) (e : Event) (r : Result (Unit {0}) StepFault) (t : NodeState)
    → advance_answer r t ≡ answer n s e → MatchResult r (λ _. NodeStep n s e t) (λ f. NodeStepFault n s e f)
advances n s e (Ok _) t a = (step_exactly n s e (Ok t) a t).0 refl
advances n s e (Err f) t a = (fault_exactly n s e (Err f) a f).0 refl

-- each event has a step or a fault
step_or_fault : (n : ℕ) (s : NodeState) (e : Event) (r : Result NodeState StepFault) → Judged n s e r → HasStep n s e
    ⊎ ((f : StepFault) × NodeStepFault n s e f)
step_or_fault n s e (Ok t) h = inl (t, h)
step_or_fault n s e (Err f) h = inr (f, h)

pub a_step_or_a_fault : (n : ℕ) (s : NodeState) (e : Event) → HasStep n s e ⊎ ((f : StepFault) × NodeStepFault n s e f)
a_step_or_a_fault n s e = step_or_fault n s e (answer n s e) (judged n s e)
