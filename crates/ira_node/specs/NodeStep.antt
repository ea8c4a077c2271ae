-- The node step: in a ring of n nodes the event leads a node from state s to state t. One constructor
-- for each kind of step of the algorithm of Itai and Rodeh, in the form with round numbers (Symmetry
-- breaking in distributed networks, Information and Computation 88, 1990). What a node does with its
-- own pair is this project's telling of it, and so are terms, and the limit on rounds, hops and terms.
use Rattle.std.specs.Prelude.{◌≡◌, ℕ, ◌+◌, ◌<◌, ◌≤◌, true, false, Some}
use Rattle.ira_event.specs.Limits.{MAX_NUMBER}
use Rattle.ira_event.specs.declared.msg.Msg.{Msg}
use Rattle.ira_event.specs.declared.load.Load.{Load}
use Rattle.ira_event.specs.declared.load.Load.TheVariants.{Msg as Message, Reset}
use Rattle.ira_event.specs.declared.event.Event.{Event}
use Rattle.ira_event.specs.declared.event.Event.TheVariants.{Draw, Sent, Got, Yield}
use Rattle.ira_node.specs.declared.phase.Phase.TheVariants.{Choosing, Active, Passive, Leader, Yielding}
use Rattle.ira_node.specs.declared.node_state.NodeState.{NodeState}
use Rattle.ira_node.specs.Msg.{first_message, raised, dirtied, IsGreater, IsLess, IsEqual}
use Rattle.ira_node.specs.NodeState.{free, owing, IsLeader}

pub data NodeStep (n : ℕ) (s : NodeState) (e : Event) (t : NodeState) : Type 0 where
  -- a node sends what it owes, and owes nothing more
  sends : (l : Load) → ¬ (IsLeader s.phase) → s.owed ≡ Some l → e ≡ Sent l → t ≡ free s.term s.phase → NodeStep n s e t
  -- a choosing node draws an ID of 1 to n, becomes active and owes its own message
  draws : (term round id : ℕ) → s ≡ free term (Choosing round) → e ≡ Draw id → 1 ≤ id → id ≤ n
      → t ≡ owing term (Active round id) (Message (first_message round id)) → NodeStep n s e t
  -- a passive node passes each message on
  passes : (term : ℕ) (m : Msg) → s ≡ free term Passive → e ≡ Got (Message m) → m.hop < MAX_NUMBER
      → t ≡ owing term Passive (Message (raised m)) → NodeStep n s e t
  -- an active node that receives a greater pair becomes passive and passes the message on
  gives_in : (term round id : ℕ) (m : Msg) → s ≡ free term (Active round id) → e ≡ Got (Message m)
      → IsGreater m round id → m.hop < MAX_NUMBER → t ≡ owing term Passive (Message (raised m)) → NodeStep n s e t
  -- an active node purges a message with a lesser pair
  purges : (term round id : ℕ) (m : Msg) → s ≡ free term (Active round id) → e ≡ Got (Message m) → IsLess m round id
      → t ≡ s → NodeStep n s e t
  -- an active node that receives its own pair before the whole way round passes it on as dirty
  meets : (term round id : ℕ) (m : Msg) → s ≡ free term (Active round id) → e ≡ Got (Message m) → IsEqual m round id
      → m.hop < n → m.hop < MAX_NUMBER → t ≡ owing term (Active round id) (Message (dirtied m)) → NodeStep n s e t
  -- an active node whose message comes back dirty chooses again in the next round
  ties : (term round id : ℕ) (m : Msg) → s ≡ free term (Active round id) → e ≡ Got (Message m) → IsEqual m round id
      → m.hop ≡ n → m.dirty ≡ true → round < MAX_NUMBER → t ≡ free term (Choosing (round + 1)) → NodeStep n s e t
  -- an active node whose message comes back clean is the leader
  wins : (term round id : ℕ) (m : Msg) → s ≡ free term (Active round id) → e ≡ Got (Message m) → IsEqual m round id
      → m.hop ≡ n → m.dirty ≡ false → t ≡ free term (Leader round id) → NodeStep n s e t
  -- a leader yields, and owes a reset with hop 1
  yields : IsLeader s.phase → e ≡ Yield → s.term < MAX_NUMBER → t ≡ owing s.term Yielding (Reset 1) → NodeStep n s e t
  -- a passive node passes a reset on that is not yet home, and chooses in the first round of the next term
  restarts : (term h : ℕ) → s ≡ free term Passive → e ≡ Got (Reset h) → h < n → term < MAX_NUMBER
      → t ≡ owing (term + 1) (Choosing 1) (Reset (h + 1)) → NodeStep n s e t
  -- a node that yielded gets its reset back from the whole way round, and chooses in the next term
  comes_home : (term : ℕ) → s ≡ free term Yielding → e ≡ Got (Reset n) → term < MAX_NUMBER
      → t ≡ free (term + 1) (Choosing 1) → NodeStep n s e t

-- the event leads on from the state
abbrev pub HasStep : ℕ → NodeState → Event → Type 0
HasStep n s e = (t : NodeState) × NodeStep n s e t
