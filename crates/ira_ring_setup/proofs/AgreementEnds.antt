-- What shown ends say: the node can't go on, and has one end.
use Rattle.std.proofs.Common.{◌≡◌, ℕ, ◌<◌, List, [], ◌∷◌, ◌++◌, length, refl, sym, ◌∙◌, subst, ap, append_assoc}
use Rattle.std.proofs.Common.{length-append, arith}
use Rattle.ira_event.specs.declared.load.Load.{Load}
use Rattle.ira_event.specs.declared.event.Event.{Event}
use Rattle.ira_event.specs.declared.event.Event.TheVariants.{Got}
use Rattle.ira_event.specs.Log.{Log}
use Rattle.ira_node.specs.declared.phase.Phase.TheVariants.{Choosing}
use Rattle.ira_node.specs.declared.node_state.NodeState.{NodeState}
use Rattle.ira_node.specs.NodeState.{first_state, free}
use Rattle.ira_node.specs.NodeStep.{HasStep}
use Rattle.ira_replay.proofs.Alike.{one_end}
use Rattle.ira_order.specs.Ring.{prev, log_of}
use Rattle.ira_order.specs.Matching.{sent, got}
use Rattle.ira_ring_setup.specs.declared.node_end.NodeEnd.{NodeEnd}
use Rattle.ira_ring_setup.specs.declared.node_end.NodeEnd.TheVariants.{Leader, Stopped, DrawsSpent, LogFull, NoStep, Quiet}
use Rattle.ira_ring_setup.specs.Setup.{Setup, is_initiator, node_draws}
use Rattle.ira_ring_setup.specs.Terms.{IsLastLeader}
use Rattle.ira_event.specs.Messages.{drawn}
use Rattle.ira_ring_setup.specs.FullRun.{HasEvent, yields, owes, chooses, receives}
use Rattle.ira_ring_setup.specs.ShownEnd.{Waits, Says, IsShown}
use Rattle.ira_ring_setup.specs.Agreement.{stopped_for_quiet}
use Rattle.ira_ring_setup.proofs.Beginnings.{next_same}
use Rattle.ira_ring_setup.proofs.Choosing.{choosing_no_receipt, choosing_no_waiting, choosing_no_leader, leader_no_waiting}
use Rattle.ira_ring_setup.proofs.MoreDraws.{must_have_spent}

-- ---- a node with a shown end can't go on

-- a node that waits makes no event but a receipt
waiting_no_event : (s : Setup) (i cap : ℕ) (state : NodeState) (events : List Event) (left : List Load)
    → Waits cap s.terms state events
    → ((m : Load) (others : List Load) → left ≡ m ∷ others → HasStep s.nodes state (Got m) → ⊥)
    → ¬ (HasEvent s.nodes s.terms (node_draws s i) state events left)
waiting_no_event s i cap state events left waits none (yields leads below) = leader_no_waiting state.phase leads waits.2
waiting_no_event s i cap state events left waits none (owes m o) = let free = waits.1 in cc
waiting_no_event s i cap state events left waits none (chooses term round is unused) =
    choosing_no_waiting term round state is waits.2
waiting_no_event s i cap state events left waits none (receives m others is step) = none m others is step

spent_no_event : (s : Setup) (i term round : ℕ) (state : NodeState) (events : List Event) (left : List Load)
    → state ≡ free term (Choosing round) → drawn events ≡ node_draws s i
    → ¬ (HasEvent s.nodes s.terms (node_draws s i) state events left)
spent_no_event s i term round state events left is all (yields leads below) =
    choosing_no_leader term round state is leads
spent_no_event s i term round state events left is all (owes m o) = cc
spent_no_event s i term round state events left is all (chooses then other other_is unused) =
    omega (arith, unused, ap length all)
spent_no_event s i term round state events left is all (receives m others there step) =
    choosing_no_receipt s.nodes term round state m is step

-- where all loads were received, none is left
none_left : (events : List Event) (input left others : List Load) (m : Load) → input ≡ got events ++ left
    → got events ≡ input → left ≡ m ∷ others → ⊥
none_left events input left others m all same is =
    omega (arith, ap length all, length-append (got events) left, ap length same, ap length is)

pub shown_stays : (s : Setup) (i : ℕ) (state : NodeState) (events : List Event) (input left : List Load) (end : NodeEnd)
    → input ≡ got events ++ left → Says s i state events input end → ¬ (IsLastLeader s.terms state)
    → length events < s.cap
    → ¬ (HasEvent s.nodes s.terms (node_draws s i) state events left)
shown_stays s i state events input left Leader all says not_last below_cap = absurd (not_last says)
shown_stays s i state events input left LogFull all says not_last below_cap = absurd (omega (arith, says.1))
shown_stays s i state events input left DrawsSpent all says not_last below_cap =
    spent_no_event s i says.1.0 says.1.1 state events left says.1.2 says.2
shown_stays s i state events input left (NoStep k) all says not_last below_cap =
    waiting_no_event s i s.cap state events left says.0
    (λ m others is step.
    let here : input ≡ got events ++ m ∷ others = all ∙ ap (λ (x : List Load). got events ++ x) is in
    let there : input ≡ got events ++ k ∷ says.2.0 = says.2.1 ∙ append_assoc (got events) (k ∷ []) says.2.0 in
    let same : m ≡ k = next_same (got events) others says.2.0 m k (sym here ∙ there) in
    let P : Load → Type 0 = λ x. HasStep s.nodes state (Got x) in
    says.1 (subst P same step))
shown_stays s i state events input left Quiet all says not_last below_cap =
    waiting_no_event s i s.cap state events left says.0 (λ m others is step.
    none_left events input left others m all says.1 is)
shown_stays s i state events input left Stopped all says not_last below_cap =
    waiting_no_event s i s.cap state events left says.0 (λ m others is step.
    none_left events input left others m all says.1 is)

-- ---- it has one end

-- a node that leads in the last term ends so
leads_so : (s : Setup) (i : ℕ) (state : NodeState) (events : List Event) (input : List Load) (end : NodeEnd)
    → IsLastLeader s.terms state → Says s i state events input end → stopped_for_quiet end ≡ Leader
leads_so s i state events input Leader l says = refl
leads_so s i state events input LogFull l says = absurd (says.0 l)
leads_so s i state events input DrawsSpent l says = absurd (says.0.0 l)
leads_so s i state events input (NoStep m) l says = absurd (says.0.0.0 l)
leads_so s i state events input Quiet l says = absurd (says.0.0.0 l)
leads_so s i state events input Stopped l says = absurd (says.0.0.0 l)

-- a node with a full log that doesn't ends so
full_so : (s : Setup) (i : ℕ) (state : NodeState) (events : List Event) (input : List Load) (end : NodeEnd)
    → ¬ (IsLastLeader s.terms state) → length events ≡ s.cap → Says s i state events input end
    → stopped_for_quiet end ≡ LogFull
full_so s i state events input Leader not_last full says = absurd (not_last says)
full_so s i state events input LogFull not_last full says = refl
full_so s i state events input DrawsSpent not_last full says = absurd (omega (arith, says.0.1, full))
full_so s i state events input (NoStep m) not_last full says = absurd (omega (arith, says.0.0.1, full))
full_so s i state events input Quiet not_last full says = absurd (omega (arith, says.0.0.1, full))
full_so s i state events input Stopped not_last full says = absurd (omega (arith, says.0.0.1, full))

-- a node that waits and has received all loads ends so
waits_so : (s : Setup) (i : ℕ) (state : NodeState) (events : List Event) (input : List Load) (end : NodeEnd)
    → Waits s.cap s.terms state events → got events ≡ input → Says s i state events input end
    → stopped_for_quiet end ≡ Stopped
waits_so s i state events input Leader waits all says = absurd (waits.0.0 says)
waits_so s i state events input LogFull waits all says = absurd (omega (arith, waits.0.1, says.1))
waits_so s i state events input DrawsSpent waits all says =
    absurd (choosing_no_waiting says.1.0 says.1.1 state says.1.2 waits.2)
waits_so s i state events input (NoStep m) waits all says =
    absurd (none_left events input (m ∷ says.2.0) says.2.0 m (says.2.1
    ∙ append_assoc (got events) (m ∷ []) says.2.0) all refl)
waits_so s i state events input Quiet waits all says = refl
waits_so s i state events input Stopped waits all says = refl

-- a node that waits before a load without a step ends so
refuses_so : (s : Setup) (i : ℕ) (state : NodeState) (events : List Event) (input : List Load) (m : Load)
    (end : NodeEnd) → Says s i state events input (NoStep m) → Says s i state events input end
    → stopped_for_quiet end ≡ NoStep m
refuses_so s i state events input m Leader h says = absurd (h.0.0.0 says)
refuses_so s i state events input m LogFull h says = absurd (omega (arith, h.0.0.1, says.1))
refuses_so s i state events input m DrawsSpent h says =
    absurd (choosing_no_waiting says.1.0 says.1.1 state says.1.2 h.0.2)
refuses_so s i state events input m (NoStep k) h says =
    let here : input ≡ got events ++ m ∷ h.2.0 = h.2.1 ∙ append_assoc (got events) (m ∷ []) h.2.0 in
    let there : input ≡ got events ++ k ∷ says.2.0 = says.2.1 ∙ append_assoc (got events) (k ∷ []) says.2.0 in
    ap NoStep (next_same (got events) says.2.0 h.2.0 k m (sym there ∙ here))
refuses_so s i state events input m Quiet h says =
    absurd (none_left events input (m ∷ h.2.0) h.2.0 m (h.2.1 ∙ append_assoc (got events) (m ∷ []) h.2.0) says.1 refl)
refuses_so s i state events input m Stopped h says =
    absurd (none_left events input (m ∷ h.2.0) h.2.0 m (h.2.1 ∙ append_assoc (got events) (m ∷ []) h.2.0) says.1 refl)

says_one : (s : Setup) (i : ℕ) (state : NodeState) (events : List Event) (input : List Load) (end other : NodeEnd)
    → Says s i state events input end → Says s i state events input other
    → stopped_for_quiet end ≡ stopped_for_quiet other
says_one s i state events input Leader other h k = sym (leads_so s i state events input other h k)
says_one s i state events input LogFull other h k = sym (full_so s i state events input other h.0 h.1 k)
says_one s i state events input (NoStep m) other h k = sym (refuses_so s i state events input m other h k)
says_one s i state events input Quiet other h k = sym (waits_so s i state events input other h.0 h.1 k)
says_one s i state events input Stopped other h k = sym (waits_so s i state events input other h.0 h.1 k)
says_one s i state events input DrawsSpent other h k =
    sym (ap stopped_for_quiet (must_have_spent s i h.1.0 h.1.1 state events input other h.1.2 h.0.1 k).0)

pub shows_one_end : (s : Setup) (logs : List Log) (i : ℕ) (end other : NodeEnd) → IsShown s logs i end
    → IsShown s logs i other → stopped_for_quiet end ≡ stopped_for_quiet other
shows_one_end s logs i end other h k =
    let same : h.0 ≡ k.0 = one_end s.nodes (first_state (is_initiator s i)) (log_of logs i) h.0 k.0 h.1 k.1 in
    let P : NodeState → Type 0 = λ x. Says s i x (log_of logs i) (sent (log_of logs (prev s.nodes i))) end in
    says_one s i k.0 (log_of logs i) (sent (log_of logs (prev s.nodes i))) end other (subst P same h.2) k.2
