-- What a hint of an event without a step says of its log.
use Rattle.std.specs.Prelude.{◌≡◌, ◌↔◌, ◌<◌, ◌+◌, ◌-◌, ◌&&◌, ℕ, [], Bool, IsTrue, None, Some, false}
use Rattle.std.specs.Prelude.{length, nat_eq, not, slice_get, true}
use Rattle.std.specs.List.{list_any, position}
use Rattle.ira_event.specs.Log.{Log}
use Rattle.ira_event.specs.declared.event.Event.{Event}
use Rattle.ira_event.specs.declared.event.Event.TheVariants.{Draw, Got, Sent, Yield}
use Rattle.ira_event.specs.declared.load.Load.{Load}
use Rattle.ira_event.specs.declared.load.Load.TheVariants.{Msg as Message, Reset}
use Rattle.ira_event.specs.declared.msg.Msg.{Msg}
use Rattle.ira_node.specs.NodeStep.{NodeStep}
use Rattle.ira_node.specs.declared.node_state.NodeState.{NodeState}
use Rattle.ira_node.specs.declared.phase.Phase.TheVariants.{Yielding}
use Rattle.ira_node.specs.declared.step_fault.StepFault.TheVariants.{Ended, MustDraw, NotChoosing, NotLeader}
use Rattle.ira_order.specs.Matching.{got, sent}
use Rattle.ira_order.specs.Ring.{numbered}
use Rattle.ira_view_evidence.specs.LoadDifference.{IsOtherIn, IsRaised}
use Rattle.ira_view_evidence.specs.declared.load_difference.LoadField.TheVariants.{Bit}
use Rattle.ira_view_explain.specs.RingHint.{HasEachTwice}
use Rattle.ira_view_explain.specs.declared.stopped.Stopped.{Stopped}
use Rattle.ira_view_explain.specs.declared.stop_hint.StopHint.{StopHint}
use Rattle.ira_view_explain.specs.declared.stop_hint.StopHint.TheVariants.{BeginsByItself, BitContrary}
use Rattle.ira_view_explain.specs.declared.stop_hint.StopHint.TheVariants.{BitKept, CalledLater, DrawsAfterReset, EachTwice}
use Rattle.ira_view_explain.specs.declared.stop_hint.StopHint.TheVariants.{HasYielded, HopNotRaised, HopRaisedTwice}
use Rattle.ira_view_explain.specs.declared.stop_hint.StopHint.TheVariants.{IdRange, NeverReceived}
use Rattle.ira_view_explain.specs.declared.stop_hint.StopHint.TheVariants.{NeverSends, NoReceipts, NotDrawn, OnlyBit}
use Rattle.ira_view_explain.specs.declared.stop_hint.StopHint.TheVariants.{ResetBack, ResetFirst, ResetNotBack, RoundAgain}
use Rattle.ira_view_explain.specs.declared.stop_hint.StopHint.TheVariants.{SentLater, SentTwice, WokenByMessage}
use Rattle.ira_view_explain.specs.declared.stop_hint.StopHint.TheVariants.{YieldLeftOut}

-- the line of a log's text that an event stands on
abbrev pub line_number : ℕ → ℕ
line_number position = position + 4

-- the event of this number, after the one at the position, sends the load
abbrev pub IsSentAfter : Log → ℕ → Load → ℕ → Type 0
IsSentAfter log position load n = (position < n) × (numbered log.events n ≡ Some (Sent load))

-- a node in this state owes the load after the event
abbrev pub CallsFor : ℕ → NodeState → Event → Load → Type 0
CallsFor nodes state event load = (after : NodeState) × NodeStep nodes state event after × (after.owed ≡ Some load)

-- the next event is a receipt, and did it come in place of the event that has no step, the node would owe the load
abbrev pub IsCalledNext : Log → Stopped → Load → Type 0
IsCalledNext log stopped load =
    (call : Load) × (numbered log.events (stopped.position + 1) ≡ Some (Got call))
    × CallsFor log.nodes stopped.state (Got call) load

-- the node that sends the load begins it
abbrev pub IsBegun : Load → Type 0
IsBegun (Message m) = m.hop ≡ 1
IsBegun (Reset hop) = hop ≡ 1

-- the event sends a load, another is owed, and they differ so
abbrev pub IsOther : Stopped → (Load → Load → Type 0) → Type 0
IsOther stopped Differ =
    (owed load : Load) × (stopped.state.owed ≡ Some owed) × (stopped.event ≡ Sent load) × Differ owed load

-- it is a message that the node begins, and differs in the bit alone
abbrev pub IsOwnOther : Stopped → Type 0
IsOwnOther stopped = IsOther stopped (λ owed load. IsBegun load × IsOtherIn Bit owed load)

-- whether the event begins a message that is clean
abbrev pub starts_clean : Event → Bool
starts_clean (Sent (Message message)) = nat_eq message.hop 1 && not message.dirty
starts_clean event = false

-- whether the event is of the end of a term
abbrev pub is_of_reset : Event → Bool
is_of_reset (Sent (Reset hop)) = true
is_of_reset (Got (Reset hop)) = true
is_of_reset Yield = true
is_of_reset event = false

-- the next event begins round 1 with this ID, and no event is of the end of a term
abbrev pub BeginsAgain : Log → Stopped → ℕ → Type 0
BeginsAgain log stopped id = (list_any is_of_reset log.events ≡ false)
    × (numbered log.events (stopped.position + 1)
    ≡ Some (Sent (Message (record { round = 1; id = id; hop = 1; dirty = false }))))

-- the node before sent the load next after those that this one received, and did it come in place of the event that has
-- no step, the node would owe just what that one sends
abbrev pub IsCallMissing : Log → Log → Stopped → Load → Type 0
IsCallMissing before log stopped call =
    (load : Load) × (stopped.event ≡ Sent load) × (slice_get (sent before.events) (length (got log.events)) ≡ Some call)
    × CallsFor log.nodes stopped.state (Got call) load

-- it is so of the log, with that of the node before it, and its event without a step
abbrev pub IsSoOfBoth : Log → Log → Stopped → StopHint → Type 0
IsSoOfBoth before log stopped (NeverReceived call) = IsCallMissing before log stopped call
IsSoOfBoth before log stopped hint = ⊥

-- it is so of the log and its event without a step
abbrev pub IsSo : Log → Stopped → StopHint → Type 0
-- the line sends what is owed, after the event
IsSo log stopped (SentLater line) =
    (load : Load) × (n : ℕ) × (stopped.state.owed ≡ Some load) × IsSentAfter log stopped.position load n
    × (line ≡ line_number n)
-- no event after it sends what is owed
IsSo log stopped NeverSends =
    (load : Load) × (stopped.state.owed ≡ Some load) × ((n : ℕ) → ¬ (IsSentAfter log stopped.position load n))
IsSo log stopped (ResetFirst is_passed) =
    (load : Load) × (stopped.state.owed ≡ Some load)
    × (IsTrue is_passed ↔ ((n : ℕ) × IsSentAfter log stopped.position load n))
-- the line is that of the next event
IsSo log stopped (CalledLater line) =
    (load : Load) × (stopped.event ≡ Sent load) × IsCalledNext log stopped load
    × (line ≡ line_number (stopped.position + 1))
IsSo log stopped SentTwice = numbered log.events (stopped.position - 1) ≡ Some stopped.event
IsSo log stopped EachTwice = HasEachTwice log.events
IsSo log stopped NoReceipts = got log.events ≡ []
IsSo log stopped (ResetNotBack nodes) = nodes ≡ log.nodes
IsSo log stopped (IdRange nodes) = nodes ≡ log.nodes
IsSo log stopped (NeverReceived call) = ⊥
IsSo log stopped BeginsByItself = (stopped.position ≡ 1) × (stopped.fault ≡ NotChoosing)
IsSo log stopped WokenByMessage = (stopped.position ≡ 1) × (stopped.fault ≡ MustDraw)
IsSo log stopped RoundAgain = (id : ℕ) × (stopped.event ≡ Draw id) × BeginsAgain log stopped id
IsSo log stopped DrawsAfterReset = (stopped.fault ≡ MustDraw) × (1 < stopped.state.term)
IsSo log stopped YieldLeftOut = (stopped.fault ≡ Ended) × (stopped.event ≡ Sent (Reset 1))
IsSo log stopped HasYielded = (stopped.fault ≡ NotLeader) × (stopped.state.phase ≡ Yielding)
IsSo log stopped HopNotRaised = IsOther stopped (λ owed load. IsRaised load owed)
IsSo log stopped HopRaisedTwice = IsOther stopped IsRaised
IsSo log stopped OnlyBit = IsOther stopped (IsOtherIn Bit)
-- no message of its own is clean, or one before it is
IsSo log stopped BitContrary = IsOwnOther stopped × (position starts_clean log.events ≡ None)
IsSo log stopped BitKept =
    IsOwnOther stopped × (first : ℕ) × (position starts_clean log.events ≡ Some first) × (first + 1 < stopped.position)
-- the event before it is the receipt of a reset, and nothing is owed
IsSo log stopped ResetBack =
    (before : NodeState) × (got sent : ℕ) × (stopped.last ≡ Some (before, Got (Reset got)))
    × (stopped.event ≡ Sent (Reset sent)) × (stopped.state.owed ≡ None)
IsSo log stopped (NotDrawn id) = (begun : Msg) × (stopped.event ≡ Sent (Message begun)) × (begun.id ≡ id)
