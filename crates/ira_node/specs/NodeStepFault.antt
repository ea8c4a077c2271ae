-- The one fault of an event without a node step, in a ring of n nodes.
use Rattle.std.specs.Prelude.{◌≡◌, ◌≢◌, ℕ, ◌<◌, ◌≤◌, ◌⊎◌, true, Some, None}
use Rattle.ira_event.specs.Limits.{MAX_NUMBER}
use Rattle.ira_event.specs.declared.msg.Msg.{Msg}
use Rattle.ira_event.specs.declared.load.Load.{Load}
use Rattle.ira_event.specs.declared.load.Load.TheVariants.{Msg as Message, Reset}
use Rattle.ira_event.specs.declared.event.Event.{Event}
use Rattle.ira_event.specs.declared.event.Event.TheVariants.{Draw, Sent, Got, Yield}
use Rattle.ira_node.specs.declared.phase.Phase.{Phase}
use Rattle.ira_node.specs.declared.phase.Phase.TheVariants.{Choosing, Active, Passive, Leader, Yielding}
use Rattle.ira_node.specs.declared.node_state.NodeState.{NodeState}
use Rattle.ira_node.specs.declared.step_fault.StepFault.{StepFault}
use Rattle.ira_node.specs.declared.step_fault.StepFault.TheVariants.{Owes, NotOwed, NotChoosing, DrawRange, MustDraw}
use Rattle.ira_node.specs.declared.step_fault.StepFault.TheVariants.{Ended, HopPast, RoundLimit, HopLimit, NotLeader}
use Rattle.ira_node.specs.declared.step_fault.StepFault.TheVariants.{WrongReset, NotReset, TermLimit}
use Rattle.ira_node.specs.Msg.{IsGreater, IsEqual}
use Rattle.ira_node.specs.NodeState.{free, IsLeader, Receives}

-- the event is a sending
abbrev pub IsSending : Event → Type 0
IsSending (Sent l) = Unit {0}
IsSending _ = ⊥

-- a node in the phase passes the message on
abbrev pub PassesOn : ℕ → Phase → Msg → Type 0
PassesOn n (Choosing round) m = ⊥
PassesOn n (Active round id) m = IsGreater m round id ⊎ (IsEqual m round id × (m.hop < n))
PassesOn n Passive m = Unit {0}
PassesOn n (Leader round id) m = ⊥
PassesOn n Yielding m = ⊥

-- in the phase a reset with this hop is due: one on its way at a passive node, the one that comes home
-- at the node that yielded
abbrev pub IsDue : ℕ → Phase → ℕ → Type 0
IsDue n (Choosing round) h = ⊥
IsDue n (Active round id) h = ⊥
IsDue n Passive h = h < n
IsDue n (Leader round id) h = ⊥
IsDue n Yielding h = h ≡ n

pub data NodeStepFault (n : ℕ) (s : NodeState) (e : Event) (f : StepFault) : Type 0 where
  -- a leader does nothing but yield
  ended : IsLeader s.phase → e ≢ Yield → f ≡ Ended → NodeStepFault n s e f
  -- it doesn't yield in the last term
  last_yield : IsLeader s.phase → e ≡ Yield → MAX_NUMBER ≤ s.term → f ≡ TermLimit → NodeStepFault n s e f
  -- a node that owes something neither draws nor receives nor yields
  owes : (l : Load) → ¬ (IsLeader s.phase) → s.owed ≡ Some l → ¬ (IsSending e) → f ≡ Owes → NodeStepFault n s e f
  -- it sends something other than what it owes
  another : (l k : Load) → ¬ (IsLeader s.phase) → s.owed ≡ Some l → e ≡ Sent k → k ≢ l → f ≡ NotOwed
      → NodeStepFault n s e f
  -- it sends something and owes nothing
  nothing_owed : (l : Load) → ¬ (IsLeader s.phase) → s.owed ≡ None → e ≡ Sent l → f ≡ NotOwed → NodeStepFault n s e f
  -- it yields and doesn't lead
  not_leader : ¬ (IsLeader s.phase) → s.owed ≡ None → e ≡ Yield → f ≡ NotLeader → NodeStepFault n s e f
  -- a choosing node receives
  must_draw : (term round : ℕ) (l : Load) → s ≡ free term (Choosing round) → e ≡ Got l → f ≡ MustDraw
      → NodeStepFault n s e f
  -- a choosing node draws an ID outside 1 to n
  draw_range : (term round id : ℕ) → s ≡ free term (Choosing round) → e ≡ Draw id → (id < 1) ⊎ (n < id) → f ≡ DrawRange
      → NodeStepFault n s e f
  -- a node that isn't choosing draws
  not_choosing : (id : ℕ) → Receives s.phase → s.owed ≡ None → e ≡ Draw id → f ≡ NotChoosing → NodeStepFault n s e f
  -- a message that is to be passed on has a hop at the limit
  hop_limit : (m : Msg) → s.owed ≡ None → e ≡ Got (Message m) → PassesOn n s.phase m → MAX_NUMBER ≤ m.hop → f ≡ HopLimit
      → NodeStepFault n s e f
  -- an active node's own pair has crossed more links than the ring has
  hop_past : (term round id : ℕ) (m : Msg) → s ≡ free term (Active round id) → e ≡ Got (Message m) → IsEqual m round id
      → n < m.hop → f ≡ HopPast → NodeStepFault n s e f
  -- its message comes back dirty in the last round
  round_limit : (term round id : ℕ) (m : Msg) → s ≡ free term (Active round id) → e ≡ Got (Message m)
      → IsEqual m round id → m.hop ≡ n → m.dirty ≡ true → MAX_NUMBER ≤ round → f ≡ RoundLimit → NodeStepFault n s e f
  -- a reset comes that isn't due
  wrong_reset : (h : ℕ) → Receives s.phase → s.owed ≡ None → e ≡ Got (Reset h) → ¬ (IsDue n s.phase h) → f ≡ WrongReset
      → NodeStepFault n s e f
  -- a reset that is due comes in the last term
  last_reset : (h : ℕ) → s.owed ≡ None → e ≡ Got (Reset h) → IsDue n s.phase h → MAX_NUMBER ≤ s.term → f ≡ TermLimit
      → NodeStepFault n s e f
  -- a message comes to a node that yielded
  not_reset : (term : ℕ) (m : Msg) → s ≡ free term Yielding → e ≡ Got (Message m) → f ≡ NotReset → NodeStepFault n s e f
