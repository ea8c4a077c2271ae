-- What one node step says of the term, of resets, and of a node that leads or is passive.
use Rattle.std.proofs.Common.{◌≡◌, ◌≢◌, ℕ, suc, ◌+◌, ◌<◌, ◌≤◌, ◌⊎◌, inl, inr, Bool, true, false, Option, Some, None}
use Rattle.std.proofs.Common.{List, [], ◌∷◌, refl, sym, ◌∙◌, ap, subst, arith}
use Rattle.ira_event.specs.declared.msg.Msg.{Msg}
use Rattle.ira_event.specs.declared.load.Load.{Load}
use Rattle.ira_event.specs.declared.load.Load.TheVariants.{Msg as Message, Reset}
use Rattle.ira_event.specs.declared.event.Event.{Event}
use Rattle.ira_event.specs.declared.event.Event.TheVariants.{Got}
use Rattle.ira_event.specs.Messages.{sending, receipt}
use Rattle.ira_node.specs.declared.phase.Phase.{Phase}
use Rattle.ira_node.specs.declared.phase.Phase.TheVariants.{Choosing, Active, Passive, Leader, Yielding}
use Rattle.ira_node.specs.declared.node_state.NodeState.{NodeState}
use Rattle.ira_node.specs.Msg.{first_message, raised, dirtied}
use Rattle.ira_node.specs.NodeState.{IsLeader, first_state}
use Rattle.ira_node.specs.NodeStep.{NodeStep, sends, draws, passes, gives_in, purges, meets, ties, wins, yields}
use Rattle.ira_node.specs.NodeStep.{restarts, comes_home}

-- ---- what a list of loads has of resets

abbrev pub of_reset : Load → ℕ
of_reset (Message m) = 0
of_reset (Reset h) = 1

abbrev pub resets : List Load → ℕ
resets [] = 0
resets (l ∷ ls) = of_reset l + resets ls

abbrev pub resets_in : Option Load → ℕ
resets_in None = 0
resets_in (Some l) = of_reset l

-- 1 for a node that yielded, 0 for any other
abbrev pub yielding : Phase → ℕ
yielding (Choosing round) = 0
yielding (Active round id) = 0
yielding Passive = 0
yielding (Leader round id) = 0
yielding Yielding = 1

-- ---- terms

pub term_is : (s t : NodeState) → s ≡ t → s.term ≡ t.term
term_is s t e = ap (λ (x : NodeState). x.term) e

pub phase_is : (s t : NodeState) → s ≡ t → s.phase ≡ t.phase
phase_is s t e = ap (λ (x : NodeState). x.phase) e

-- the term is how many resets were received, and one
pub term_more : (n : ℕ) (s : NodeState) (e : Event) (t : NodeState) → NodeStep n s e t
    → t.term ≡ s.term + resets_in (receipt e)
term_more n s e t (sends l runs o ee et) = rw (ee, et) (omega arith)
term_more n s e t (draws term round id es ee lo hi et) = rw (es, ee, et) (omega arith)
term_more n s e t (passes term m es ee h et) = rw (es, ee, et) (omega arith)
term_more n s e t (gives_in term round id m es ee g h et) = rw (es, ee, et) (omega arith)
term_more n s e t (purges term round id m es ee g et) = rw (ee, et) (omega arith)
term_more n s e t (meets term round id m es ee g h k et) = rw (es, ee, et) (omega arith)
term_more n s e t (ties term round id m es ee g h d k et) = rw (es, ee, et) (omega arith)
term_more n s e t (wins term round id m es ee g h d et) = rw (es, ee, et) (omega arith)
term_more n s e t (yields l ee low et) = rw (ee, et) (omega arith)
term_more n s e t (restarts term h es ee below low et) = rw (es, ee, et) refl
term_more n s e t (comes_home term es ee low et) = rw (es, ee, et) refl

pub term_rises : (n : ℕ) (s : NodeState) (e : Event) (t : NodeState) → NodeStep n s e t → s.term ≤ t.term
term_rises n s e t step = omega (arith, term_more n s e t step)

-- ---- resets that are sent

-- a leader owes nothing, and a node that yielded no message
abbrev pub Settled : Phase → Option Load → Type 0
Settled (Choosing round) o = Unit {0}
Settled (Active round id) o = Unit {0}
Settled Passive o = Unit {0}
Settled (Leader round id) o = o ≡ None
Settled Yielding o = (m : Msg) → o ≢ Some (Message m)

settled_free : (phase : Phase) → Settled phase None
settled_free (Choosing round) = tt
settled_free (Active round id) = tt
settled_free Passive = tt
settled_free (Leader round id) = refl
settled_free Yielding = λ m e. cc

pub settled_first : (initiator : Bool) → Settled (first_state initiator).phase (first_state initiator).owed
settled_first true = tt
settled_first false = tt

pub stays_settled : (n : ℕ) (s : NodeState) (e : Event) (t : NodeState) → Settled s.phase s.owed → NodeStep n s e t
    → Settled t.phase t.owed
stays_settled n s e t h (sends l runs o ee et) = rw et (settled_free s.phase)
stays_settled n s e t h (draws term round id es ee lo hi et) = rw et tt
stays_settled n s e t h (passes term m es ee k et) = rw et tt
stays_settled n s e t h (gives_in term round id m es ee g k et) = rw et tt
stays_settled n s e t h (purges term round id m es ee g et) = rw et h
stays_settled n s e t h (meets term round id m es ee g k j et) = rw et tt
stays_settled n s e t h (ties term round id m es ee g k d j et) = rw et tt
stays_settled n s e t h (wins term round id m es ee g k d et) = rw et refl
stays_settled n s e t h (yields l ee low et) = rw et (λ m q. cc)
stays_settled n s e t h (restarts term k es ee below low et) = rw et tt
stays_settled n s e t h (comes_home term es ee low et) = rw et tt

-- a leader that is settled owes no reset, and counts as none that yielded
leader_owes : (phase : Phase) (o : Option Load) → IsLeader phase → Settled phase o → (resets_in o ≡ 0)
    × (yielding phase ≡ 0)
leader_owes (Choosing round) o l h = absurd l
leader_owes (Active round id) o l h = absurd l
leader_owes Passive o l h = absurd l
leader_owes (Leader round id) o l h = (ap resets_in h, refl)
leader_owes Yielding o l h = absurd l

-- the resets that were sent, with the one that is owed, are as many as the terms before, and one more where the node
-- yielded
pub balance : (n c d : ℕ) (s : NodeState) (e : Event) (t : NodeState) → d ≡ c + resets_in (sending e)
    → Settled s.phase s.owed → c + resets_in s.owed + 1 ≡ s.term + yielding s.phase → NodeStep n s e t
    → d + resets_in t.owed + 1 ≡ t.term + yielding t.phase
balance n c d s e t more h k (sends l runs o ee et) =
    let a : resets_in s.owed ≡ of_reset l = ap resets_in o in
    let b : resets_in (sending e) ≡ of_reset l = ap (λ x. resets_in (sending x)) ee in
    rw et (omega arith)
balance n c d s e t more h k (draws term round id es ee lo hi et) = let p = rw es at k in let q = rw ee at more in
    rw et (omega arith)
balance n c d s e t more h k (passes term m es ee q et) = let p = rw es at k in let u = rw ee at more in
    rw et (omega arith)
balance n c d s e t more h k (gives_in term round id m es ee g q et) = let p = rw es at k in let u = rw ee at more in
    rw et (omega arith)
balance n c d s e t more h k (purges term round id m es ee g et) = let q = rw ee at more in rw et (omega arith)
balance n c d s e t more h k (meets term round id m es ee g q j et) = let p = rw es at k in let u = rw ee at more in
    rw et (omega arith)
balance n c d s e t more h k (ties term round id m es ee g q r j et) = let p = rw es at k in let u = rw ee at more in
    rw et (omega arith)
balance n c d s e t more h k (wins term round id m es ee g q r et) = let p = rw es at k in let u = rw ee at more in
    rw et (omega arith)
balance n c d s e t more h k (yields l ee low et) =
    let o = leader_owes s.phase s.owed l h in
    let q = rw ee at more in
    rw et (omega arith)
balance n c d s e t more h k (restarts term q es ee below low et) = let p = rw es at k in let u = rw ee at more in
    rw et (omega arith)
balance n c d s e t more h k (comes_home term es ee low et) = let p = rw es at k in let q = rw ee at more in
    rw et (omega arith)

-- ---- where what a node owes comes from

-- a clean message past its first hop is owed for the same message one hop before, by a node that its receipt left
-- passive
pub message_owed : (n : ℕ) (s : NodeState) (e : Event) (t : NodeState) (m : Msg) → NodeStep n s e t
    → t.owed ≡ Some (Message m) → m.dirty ≡ false → m.hop ≢ 1 → (k : Msg) × (e ≡ Got (Message k)) × (m ≡ raised k)
    × (t.phase ≡ Passive) × (t.term ≡ s.term)
message_owed n s e t m (sends l runs o ee et) owes clean hop = let a = rw et at owes in cc
message_owed n s e t m (draws term round id es ee lo hi et) owes clean hop =
    let a = rw et at owes in
    absurd (hop (let same : first_message round id ≡ m = cc in sym (ap (λ (x : Msg). x.hop) same)))
message_owed n s e t m (passes term k es ee h et) owes clean hop =
    let a = rw et at owes in
    (k, ee, (let same : raised k ≡ m = cc in sym same), phase_is t _ et, term_is t _ et ∙ sym (term_is s _ es))
message_owed n s e t m (gives_in term round id k es ee g h et) owes clean hop =
    let a = rw et at owes in
    (k, ee, (let same : raised k ≡ m = cc in sym same), phase_is t _ et, term_is t _ et ∙ sym (term_is s _ es))
message_owed n s e t m (purges term round id k es ee g et) owes clean hop = let a = rw (et, es) at owes in cc
message_owed n s e t m (meets term round id k es ee g h j et) owes clean hop =
    let a = rw et at owes in
    let same : dirtied k ≡ m = cc in
    let dirt : m.dirty ≡ true = sym (ap (λ (x : Msg). x.dirty) same) in
    absurd (let z : ⊥ = cc in z)
message_owed n s e t m (ties term round id k es ee g h d j et) owes clean hop = let a = rw et at owes in cc
message_owed n s e t m (wins term round id k es ee g h d et) owes clean hop = let a = rw et at owes in cc
message_owed n s e t m (yields l ee low et) owes clean hop = let a = rw et at owes in cc
message_owed n s e t m (restarts term h es ee below low et) owes clean hop = let a = rw et at owes in cc
message_owed n s e t m (comes_home term es ee low et) owes clean hop = let a = rw et at owes in cc

-- a reset is owed by a leader that yields, or for the same reset one hop before, by a node that comes to the next term
pub reset_owed : (n : ℕ) (s : NodeState) (e : Event) (t : NodeState) (h : ℕ) → NodeStep n s e t
    → t.owed ≡ Some (Reset h) → (IsLeader s.phase × (t.phase ≡ Yielding) × (t.term ≡ s.term))
    ⊎ ((k : ℕ) × (e ≡ Got (Reset k)) × (h ≡ suc k) × (yielding t.phase ≡ 0) × (t.term ≡ suc s.term))
reset_owed n s e t h (sends l runs o ee et) owes = let a = rw et at owes in cc
reset_owed n s e t h (draws term round id es ee lo hi et) owes = let a = rw et at owes in cc
reset_owed n s e t h (passes term k es ee q et) owes = let a = rw et at owes in cc
reset_owed n s e t h (gives_in term round id k es ee g q et) owes = let a = rw et at owes in cc
reset_owed n s e t h (purges term round id k es ee g et) owes = let a = rw (et, es) at owes in cc
reset_owed n s e t h (meets term round id k es ee g q j et) owes = let a = rw et at owes in cc
reset_owed n s e t h (ties term round id k es ee g q d j et) owes = let a = rw et at owes in cc
reset_owed n s e t h (wins term round id k es ee g q d et) owes = let a = rw et at owes in cc
reset_owed n s e t h (yields l ee low et) owes = inl (l, phase_is t _ et, term_is t _ et)
reset_owed n s e t h (restarts term k es ee below low et) owes =
    let a = rw et at owes in
    let same : k + 1 ≡ h = cc in
    inr (k, ee, omega arith, ap yielding (phase_is t _ et), omega (arith, term_is t _ et, term_is s _ es))
reset_owed n s e t h (comes_home term es ee low et) owes = let a = rw et at owes in cc

-- a node comes to lead by its message, clean, from the whole way
pub won : (n : ℕ) (s : NodeState) (e : Event) (t : NodeState) → NodeStep n s e t → IsLeader t.phase → (m : Msg)
    × (e ≡ Got (Message m)) × (m.hop ≡ n) × (m.dirty ≡ false) × (t.term ≡ s.term)
won n s e t (sends l runs o ee et) leads = absurd (runs (rw et at leads))
won n s e t (draws term round id es ee lo hi et) leads = absurd (rw et at leads)
won n s e t (passes term m es ee h et) leads = absurd (rw et at leads)
won n s e t (gives_in term round id m es ee g h et) leads = absurd (rw et at leads)
won n s e t (purges term round id m es ee g et) leads = absurd (rw (et, es) at leads)
won n s e t (meets term round id m es ee g h k et) leads = absurd (rw et at leads)
won n s e t (ties term round id m es ee g h d k et) leads = absurd (rw et at leads)
won n s e t (wins term round id m es ee g h d et) leads = (m, ee, h, d, term_is t _ et ∙ sym (term_is s _ es))
won n s e t (yields l ee low et) leads = absurd (rw et at leads)
won n s e t (restarts term h es ee below low et) leads = absurd (rw et at leads)
won n s e t (comes_home term es ee low et) leads = absurd (rw et at leads)

-- ---- what a node keeps to the end of a term

-- the node is in this phase in the term, or is past the term
abbrev pub IsStill : ℕ → Phase → NodeState → Type 0
IsStill term phase s = (term < s.term) ⊎ ((s.term ≡ term) × (s.phase ≡ phase))

-- a phase that only the end of its term ends
abbrev pub Lasts : Phase → Type 0
Lasts (Choosing round) = ⊥
Lasts (Active round id) = ⊥
Lasts Passive = Unit {0}
Lasts (Leader round id) = ⊥
Lasts Yielding = Unit {0}

abbrev pub HasLed : Phase → Type 0
HasLed (Choosing round) = ⊥
HasLed (Active round id) = ⊥
HasLed Passive = ⊥
HasLed (Leader round id) = Unit {0}
HasLed Yielding = Unit {0}

-- the node leads or yielded in the term, or is past it
abbrev pub IsDone : ℕ → NodeState → Type 0
IsDone term s = (term < s.term) ⊎ ((s.term ≡ term) × HasLed s.phase)

pub leader_led : (phase : Phase) → IsLeader phase → HasLed phase
leader_led (Choosing round) l = l
leader_led (Active round id) l = l
leader_led Passive l = l
leader_led (Leader round id) l = tt
leader_led Yielding l = tt

pub stays : (n term : ℕ) (phase : Phase) (s : NodeState) (e : Event) (t : NodeState) → Lasts phase → NodeStep n s e t
    → IsStill term phase s → IsStill term phase t
stays n term phase s e t lasts step (inl past) = inl (omega (arith, term_rises n s e t step))
stays n term phase s e t lasts (sends l runs o ee et) (inr h) = inr (term_is t _ et ∙ h.0, phase_is t _ et ∙ h.1)
stays n term phase s e t lasts (draws u round id es ee lo hi et) (inr h) =
    absurd (subst Lasts (sym h.1 ∙ phase_is s _ es) lasts)
stays n term phase s e t lasts (passes u m es ee q et) (inr h) =
    inr (term_is t _ et ∙ sym (term_is s _ es) ∙ h.0, phase_is t _ et ∙ sym (phase_is s _ es) ∙ h.1)
stays n term phase s e t lasts (gives_in u round id m es ee g q et) (inr h) =
    absurd (subst Lasts (sym h.1 ∙ phase_is s _ es) lasts)
stays n term phase s e t lasts (purges u round id m es ee g et) (inr h) =
    absurd (subst Lasts (sym h.1 ∙ phase_is s _ es) lasts)
stays n term phase s e t lasts (meets u round id m es ee g q k et) (inr h) =
    absurd (subst Lasts (sym h.1 ∙ phase_is s _ es) lasts)
stays n term phase s e t lasts (ties u round id m es ee g q d k et) (inr h) =
    absurd (subst Lasts (sym h.1 ∙ phase_is s _ es) lasts)
stays n term phase s e t lasts (wins u round id m es ee g q d et) (inr h) =
    absurd (subst Lasts (sym h.1 ∙ phase_is s _ es) lasts)
stays n term phase s e t lasts (yields l ee low et) (inr h) = absurd (no_leader s.phase l (subst Lasts (sym h.1) lasts))
  where
    no_leader : (p : Phase) → IsLeader p → Lasts p → ⊥
    no_leader (Choosing round) l k = k
    no_leader (Active round id) l k = k
    no_leader Passive l k = l
    no_leader (Leader round id) l k = k
    no_leader Yielding l k = l
stays n term phase s e t lasts (restarts u q es ee below low et) (inr h) =
    inl (omega (arith, term_is t _ et, term_is s _ es))
stays n term phase s e t lasts (comes_home u es ee low et) (inr h) = inl (omega (arith, term_is t _ et, term_is s _ es))

pub stays_done : (n term : ℕ) (s : NodeState) (e : Event) (t : NodeState) → NodeStep n s e t → IsDone term s
    → IsDone term t
stays_done n term s e t step (inl past) = inl (omega (arith, term_rises n s e t step))
stays_done n term s e t (sends l runs o ee et) (inr h) = inr (term_is t _ et ∙ h.0, rw et (h.1))
stays_done n term s e t (draws u round id es ee lo hi et) (inr h) = absurd (rw es at (h.1))
stays_done n term s e t (passes u m es ee q et) (inr h) = absurd (rw es at (h.1))
stays_done n term s e t (gives_in u round id m es ee g q et) (inr h) = absurd (rw es at (h.1))
stays_done n term s e t (purges u round id m es ee g et) (inr h) = absurd (rw es at (h.1))
stays_done n term s e t (meets u round id m es ee g q k et) (inr h) = absurd (rw es at (h.1))
stays_done n term s e t (ties u round id m es ee g q d k et) (inr h) = absurd (rw es at (h.1))
stays_done n term s e t (wins u round id m es ee g q d et) (inr h) = absurd (rw es at (h.1))
stays_done n term s e t (yields l ee low et) (inr h) = inr (term_is t _ et ∙ h.0, rw et tt)
stays_done n term s e t (restarts u q es ee below low et) (inr h) = absurd (rw es at (h.1))
stays_done n term s e t (comes_home u es ee low et) (inr h) = inl (omega (arith, term_is t _ et, term_is s _ es))
