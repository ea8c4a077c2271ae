-- A node keeps to the numbers that a record may hold.
use Rattle.std.proofs.Common.{◌≡◌, ℕ, ◌+◌, ◌<◌, ◌≤◌, Bool, ◌&&◌, true, refl, subst, arith}
use Rattle.std.proofs.lemmas.Bool.Decides.{nat_tests}
use Rattle.ira_event.specs.Event.{is_number, is_msg, is_load, is_event}
use Rattle.ira_event.specs.RingSize.{IsRingSize}
use Rattle.ira_event.specs.Limits.{MAX_NUMBER}
use Rattle.ira_event.specs.declared.msg.Msg.{Msg}
use Rattle.ira_event.specs.declared.load.Load.{Load}
use Rattle.ira_event.specs.declared.load.Load.TheVariants.{Msg as Message}
use Rattle.ira_event.specs.declared.event.Event.{Event}
use Rattle.ira_event.specs.declared.event.Event.TheVariants.{Sent}
use Rattle.ira_event.proofs.Numerals.{and_parts}
use Rattle.ira_node.specs.declared.phase.Phase.TheVariants.{Choosing, Active, Passive}
use Rattle.ira_node.specs.declared.node_state.NodeState.{NodeState}
use Rattle.ira_node.specs.Msg.{first_message, raised, dirtied}
use Rattle.ira_node.specs.NodeState.{free, owing, is_phase, is_debt, is_state}
use Rattle.ira_node.specs.NodeStep.{NodeStep, sends, draws, passes, gives_in, purges, meets, ties, wins, yields}
use Rattle.ira_node.specs.NodeStep.{restarts, comes_home}

raised_stays : (m : Msg) → is_msg m ≡ true → m.hop < MAX_NUMBER → is_msg (raised m) ≡ true
raised_stays m h low = grind (arith, nat_tests)

dirtied_stays : (m : Msg) → is_msg m ≡ true → m.hop < MAX_NUMBER → is_msg (dirtied m) ≡ true
dirtied_stays m h low = grind (arith, nat_tests)

first_message_stays : (term round id : ℕ) → is_number term ≡ true → is_number round ≡ true → is_number id ≡ true
    → is_state (owing term (Active round id) (Message (first_message round id))) ≡ true
first_message_stays term round id g h k = rw (g, h, k) refl

next_stays : (x : ℕ) → x < MAX_NUMBER → is_number (x + 1) ≡ true
next_stays x h = grind (arith, nat_tests)

next_reset_stays : (n h : ℕ) → IsRingSize n → h < n → is_number (h + 1) ≡ true
next_reset_stays n h size below = let few : h + 1 ≤ MAX_NUMBER = omega (arith, size.1, below) in
    grind (arith, nat_tests)

-- the parts of a state
term_of : (s : NodeState) → is_state s ≡ true → is_number s.term ≡ true
term_of s h = (and_parts (is_number s.term) (is_phase s.phase) (and_parts _ _ h).0).0

phase_of : (s : NodeState) → is_state s ≡ true → is_phase s.phase ≡ true
phase_of s h = (and_parts (is_number s.term) (is_phase s.phase) (and_parts _ _ h).0).1

three : (a b c : Bool) → a ≡ true → b ≡ true → c ≡ true → (a && b && c) ≡ true
three a b c h k l = rw (h, k, l) refl

pub stays : (n : ℕ) (s : NodeState) (e : Event) (t : NodeState) → IsRingSize n → is_state s ≡ true → is_event e ≡ true
    → NodeStep n s e t → is_state t ≡ true
stays n s e t size h k (sends l runs o ee et) = rw et (three _ _ _ (term_of s h) (phase_of s h) refl)
stays n s e t size h k (draws term round id es ee lo hi et) =
    let x = subst (λ x. is_state x ≡ true) es h in
    let c = free term (Choosing round) in
    rw et (first_message_stays term round id (term_of c x) (phase_of c x) (subst (λ x. is_event x ≡ true) ee k))
stays n s e t size h k (passes term m es ee low et) =
    rw et (three _ _ _ (term_of (free term Passive) (subst (λ x. is_state x ≡ true) es h)) refl
    (raised_stays m (subst (λ x. is_event x ≡ true) ee k) low))
stays n s e t size h k (gives_in term round id m es ee g low et) =
    rw et (three _ _ _ (term_of (free term (Active round id)) (subst (λ x. is_state x ≡ true) es h)) refl
    (raised_stays m (subst (λ x. is_event x ≡ true) ee k) low))
stays n s e t size h k (purges term round id m es ee g et) = rw et h
stays n s e t size h k (meets term round id m es ee g short low et) =
    let x = subst (λ x. is_state x ≡ true) es h in
    let a = free term (Active round id) in
    rw et (three _ _ _ (term_of a x) (phase_of a x) (dirtied_stays m (subst (λ x. is_event x ≡ true) ee k) low))
stays n s e t size h k (ties term round id m es ee g whole d low et) =
    rw et (three _ _ _ (term_of (free term (Active round id)) (subst (λ x. is_state x ≡ true) es h))
    (next_stays round low) refl)
stays n s e t size h k (wins term round id m es ee g whole d et) = rw et (subst (λ x. is_state x ≡ true) es h)
stays n s e t size h k (yields leads ee low et) = rw et (three _ _ _ (term_of s h) refl refl)
stays n s e t size h k (restarts term hop es ee below low et) =
    rw et (three _ _ _ (next_stays term low) refl (next_reset_stays n hop size below))
stays n s e t size h k (comes_home term es ee low et) = rw et (three _ _ _ (next_stays term low) refl refl)

pub sendings : (n : ℕ) (s : NodeState) (l : Load) (t : NodeState) → is_state s ≡ true → NodeStep n s (Sent l) t
    → is_load l ≡ true
sendings n s l t h (sends k runs o ee et) =
    let same : l ≡ k = cc in rw same (subst (λ x. is_debt x ≡ true) o (and_parts _ _ h).1)
sendings n s l t h (draws term round id es ee lo hi et) = cc
sendings n s l t h (passes term k es ee low et) = cc
sendings n s l t h (gives_in term round id k es ee g low et) = cc
sendings n s l t h (purges term round id k es ee g et) = cc
sendings n s l t h (meets term round id k es ee g short low et) = cc
sendings n s l t h (ties term round id k es ee g whole d low et) = cc
sendings n s l t h (wins term round id k es ee g whole d et) = cc
sendings n s l t h (yields leads ee low et) = cc
sendings n s l t h (restarts term hop es ee below low et) = cc
sendings n s l t h (comes_home term es ee low et) = cc
