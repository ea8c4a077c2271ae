-- A helper, no definition: the node step as a function by cases, to which proofs tie the code. That
-- it answers what the relations of NodeStep and NodeStepFault say is proved.
use Rattle.std.specs.Prelude.{ℕ, ◌+◌, Bool, false, cond, ◌&&◌, not, ◌||◌, nat_eq, nat_lt, Option, Some, None, Result}
use Rattle.std.specs.Prelude.{Ok, Err}
use mathlib.Core.Bool.{beq}
use Rattle.ira_event.specs.Limits.{MAX_NUMBER}
use Rattle.ira_event.specs.declared.msg.Msg.{Msg}
use Rattle.ira_event.specs.declared.load.Load.{Load}
use Rattle.ira_event.specs.declared.load.Load.TheVariants.{Msg as Message, Reset}
use Rattle.ira_event.specs.declared.event.Event.{Event}
use Rattle.ira_event.specs.declared.event.Event.TheVariants.{Draw, Sent, Got, Yield}
use Rattle.ira_node.specs.declared.phase.Phase.{Phase}
use Rattle.ira_node.specs.declared.phase.Phase.TheVariants.{Choosing, Active, Passive, Leader, Yielding}
use Rattle.ira_node.specs.declared.node_state.NodeState.{NodeState}
use Rattle.ira_node.specs.declared.step_fault.StepFault.{StepFault}
use Rattle.ira_node.specs.declared.step_fault.StepFault.TheVariants.{Owes, NotOwed, NotChoosing, DrawRange, MustDraw}
use Rattle.ira_node.specs.declared.step_fault.StepFault.TheVariants.{Ended, HopPast, RoundLimit, HopLimit, NotLeader}
use Rattle.ira_node.specs.declared.step_fault.StepFault.TheVariants.{WrongReset, NotReset, TermLimit}
use Rattle.ira_node.specs.Msg.{first_message, raised, dirtied}
use Rattle.ira_node.specs.NodeState.{free, owing}

-- whether two messages, or two loads, are equal
abbrev pub same_msg : Msg → Msg → Bool
same_msg k m = nat_eq k.round m.round && nat_eq k.id m.id && nat_eq k.hop m.hop && beq k.dirty m.dirty

abbrev pub same_load : Load → Load → Bool
same_load (Message k) (Message m) = same_msg k m
same_load (Reset h) (Reset g) = nat_eq h g
same_load _ _ = false

-- whether the message's pair is greater, or less
abbrev pub is_greater : Msg → ℕ → ℕ → Bool
is_greater m round id = nat_lt round m.round || (nat_eq m.round round && nat_lt id m.id)

abbrev pub is_less : Msg → ℕ → ℕ → Bool
is_less m round id = nat_lt m.round round || (nat_eq m.round round && nat_lt m.id id)

-- the state after passing the message on, where its hop may rise
abbrev pub passing : Msg → NodeState → Result NodeState StepFault
passing m after = cond (nat_lt m.hop MAX_NUMBER) (Ok after) (Err HopLimit)

-- an active node's own message came back
abbrev pub back_answer : ℕ → ℕ → ℕ → Msg → Result NodeState StepFault
back_answer term round id m =
    cond m.dirty (cond (nat_lt round MAX_NUMBER) (Ok (free term (Choosing (round + 1)))) (Err RoundLimit))
    (Ok (free term (Leader round id)))

-- an active node got its own pair
abbrev pub own_pair_answer : ℕ → ℕ → ℕ → ℕ → Msg → Result NodeState StepFault
own_pair_answer n term round id m =
    cond (nat_lt m.hop n) (passing m (owing term (Active round id) (Message (dirtied m))))
    (cond (nat_lt n m.hop) (Err HopPast) (back_answer term round id m))

-- a node becomes or stays passive and passes the message on
abbrev pub passed : ℕ → Msg → Result NodeState StepFault
passed term m = passing m (owing term Passive (Message (raised m)))

-- an active node got a message
abbrev pub compared : ℕ → ℕ → ℕ → ℕ → Msg → Result NodeState StepFault
compared n term round id m =
    cond (is_greater m round id) (passed term m)
    (cond (is_less m round id) (Ok (free term (Active round id))) (own_pair_answer n term round id m))

-- a reset came that begins the next term with this state, where it is due
abbrev pub reset_answer : Bool → ℕ → NodeState → Result NodeState StepFault
reset_answer due term after = cond due (cond (nat_lt term MAX_NUMBER) (Ok after) (Err TermLimit)) (Err WrongReset)

-- a node that owes nothing got a message
abbrev pub message_answer : ℕ → ℕ → Phase → Msg → Result NodeState StepFault
message_answer n term (Choosing round) m = Err MustDraw
message_answer n term (Active round id) m = compared n term round id m
message_answer n term Passive m = passed term m
message_answer n term (Leader round id) m = Err Ended
message_answer n term Yielding m = Err NotReset

-- why a node takes no message that is neither active nor passive
abbrev pub message_fault : Phase → StepFault
message_fault (Choosing round) = MustDraw
message_fault (Leader round id) = Ended
message_fault _ = NotReset

-- a node that owes nothing got a reset
abbrev pub restart_answer : ℕ → ℕ → Phase → ℕ → Result NodeState StepFault
restart_answer n term (Choosing round) h = Err MustDraw
restart_answer n term (Active round id) h = Err WrongReset
restart_answer n term Passive h = reset_answer (nat_lt h n) term (owing (term + 1) (Choosing 1) (Reset (h + 1)))
restart_answer n term (Leader round id) h = Err Ended
restart_answer n term Yielding h = reset_answer (nat_eq h n) term (free (term + 1) (Choosing 1))

-- a node that owes nothing drew
abbrev pub drawn_answer : ℕ → ℕ → Phase → ℕ → Result NodeState StepFault
drawn_answer n term (Choosing round) d =
    cond (nat_lt 0 d && not (nat_lt n d)) (Ok (owing term (Active round d) (Message (first_message round d))))
    (Err DrawRange)
drawn_answer n term (Active round id) d = Err NotChoosing
drawn_answer n term Passive d = Err NotChoosing
drawn_answer n term (Leader round id) d = Err Ended
drawn_answer n term Yielding d = Err NotChoosing

-- nothing is owed, by a node that doesn't lead
abbrev pub free_answer : ℕ → ℕ → Phase → Event → Result NodeState StepFault
free_answer n term phase (Draw d) = drawn_answer n term phase d
free_answer n term phase (Sent l) = Err NotOwed
free_answer n term phase (Got (Message m)) = message_answer n term phase m
free_answer n term phase (Got (Reset h)) = restart_answer n term phase h
free_answer n term phase Yield = Err NotLeader

-- the load is owed, by a node that doesn't lead
abbrev pub sent_answer : ℕ → Phase → Load → Event → Result NodeState StepFault
sent_answer term phase l (Draw d) = Err Owes
sent_answer term phase l (Sent k) = cond (same_load k l) (Ok (free term phase)) (Err NotOwed)
sent_answer term phase l (Got k) = Err Owes
sent_answer term phase l Yield = Err Owes

-- a leader's answer
abbrev pub leading_answer : ℕ → Event → Result NodeState StepFault
leading_answer term (Draw d) = Err Ended
leading_answer term (Sent l) = Err Ended
leading_answer term (Got l) = Err Ended
leading_answer term Yield = cond (nat_lt term MAX_NUMBER) (Ok (owing term Yielding (Reset 1))) (Err TermLimit)

-- the answer by term, phase, debt and event
abbrev pub step_answer : ℕ → ℕ → Phase → Option Load → Event → Result NodeState StepFault
step_answer n term (Leader round id) owed e = leading_answer term e
step_answer n term phase None e = free_answer n term phase e
step_answer n term phase (Some l) e = sent_answer term phase l e

-- the answer in a state
abbrev pub answer : ℕ → NodeState → Event → Result NodeState StepFault
answer n s e = step_answer n s.term s.phase s.owed e

-- the answer of a step that changes the state itself
abbrev pub advance_answer : Result (Unit {0}) StepFault → NodeState → Result NodeState StepFault
advance_answer (Ok _) after = Ok after
advance_answer (Err f) after = Err f
