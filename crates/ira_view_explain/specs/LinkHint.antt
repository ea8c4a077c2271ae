-- What a hint of a link says of the logs.
use Rattle.std.specs.Prelude.{◌≡◌, ◌⊎◌, ◌<◌, ◌+◌, ◌-◌, ℕ, IfSome, List, ◌++◌, None, Some, drop, length, slice_get, take}
use Rattle.std.specs.List.Sorted.{IsPermutation}
use Rattle.ira_event.specs.Log.{Log}
use Rattle.ira_event.specs.declared.event.Event.{Event}
use Rattle.ira_event.specs.declared.load.Load.{Load}
use Rattle.ira_event.specs.declared.load.Load.TheVariants.{Msg as Message, Reset}
use Rattle.ira_node.specs.NodeState.{first_state}
use Rattle.ira_node.specs.declared.node_state.NodeState.{NodeState}
use Rattle.ira_node.specs.declared.phase.Phase.TheVariants.{Active}
use Rattle.ira_order.specs.Matching.{got, sent}
use Rattle.ira_order.specs.Ring.{log_of, prev}
use Rattle.ira_replay.specs.LocalRun.{LeadsTo}
use Rattle.ira_view_evidence.specs.LinkCause.{Explains}
use Rattle.ira_view_evidence.specs.LoadDifference.{DifferAlike}
use Rattle.ira_view_evidence.specs.declared.link_cause.LinkCause.TheVariants as cause
use Rattle.ira_view_evidence.specs.declared.exchange.Exchange.{Exchange}
use Rattle.ira_view_explain.specs.RingHint as ring
use Rattle.ira_view_explain.specs.declared.faulty_link.FaultyLink.{FaultyLink}
use Rattle.ira_view_explain.specs.declared.link_hint.LinkHint.{LinkHint}
use Rattle.ira_view_explain.specs.declared.link_hint.LinkHint.TheVariants.{CameTwice, Dropped, NeverSent, NoReceipt}
use Rattle.ira_view_explain.specs.declared.link_hint.LinkHint.TheVariants.{NoSending, OwedAtEnd, Reordered, Ring, Rows, SentTwice}

-- the messages from one number to another
abbrev pub from_to : ℕ → ℕ → List Load → List Load
from_to first last loads = take (last - (first - 1)) (drop (first - 1) loads)

-- none of these is the load
abbrev pub IsNowhere : List Load → Load → Type 0
IsNowhere loads load = (i : ℕ) → ¬ (slice_get loads i ≡ Some load)

-- a node in the state drops the load for its lesser pair
abbrev pub Drops : NodeState → Load → Type 0
Drops state (Message m) =
    (round id : ℕ) × (state.phase ≡ Active round id)
    × ((m.round < round) ⊎ ((m.round ≡ round) × (m.id < id)))
Drops state (Reset hop) = ⊥

-- the log of a place begins with events that lead to the state
abbrev pub LeadsAt : List Log → ℕ → NodeState → Type 0
LeadsAt logs place state =
    (log : Log) × (slice_get logs place ≡ Some log) × (front rest : List Event) × (log.events ≡ front ++ rest)
    × LeadsTo log.nodes (first_state log.initiator) front state

-- the log of a place ends, in that line, where it owes the load
abbrev pub EndsOwing : List Log → ℕ → Load → ℕ → Type 0
EndsOwing logs place load line =
    (log : Log) × (slice_get logs place ≡ Some log) × (line ≡ length log.events + 5)
    × (state : NodeState) × LeadsTo log.nodes (first_state log.initiator) log.events state × (state.owed ≡ Some load)

-- the load that would be passed on as this one was sent to the node, and isn't among its receipts
abbrev pub IsCallMissing : List Log → ℕ → Load → Load → Type 0
IsCallMissing logs writer load call =
    ring.IsPassedOn call load × ((i : ℕ) × (slice_get (sent (log_of logs (prev (length logs) writer))) i ≡ Some call))
    × IsNowhere (got (log_of logs writer)) call

-- it is so of the link
abbrev pub IsSo : {A B : Type 0} → FaultyLink A → LinkHint B → Type 0
IsSo link (Ring hint) = ring.IsSo link.logs.now hint
-- all receipts that aren't their sendings differ from them so
IsSo link (Rows how rows) = DifferAlike how link.sides.sent.items link.sides.received.items
IsSo link (OwedAtEnd writer file line) =
    (writer ≡ link.link) × (link.sending ≡ None) × EndsOwing link.logs.now writer link.receipt.load line
-- the reader drops this sending in the state, to which its log leads
IsSo link (Dropped reader state load) = (reader ≡ link.reader) × LeadsAt link.logs.now reader state × Drops state load
    × ((sending : Exchange) × (link.sending ≡ Some sending) × (sending.load ≡ load))
-- the receipts of these numbers are the sendings of these numbers, in some order
IsSo link (Reordered first last) =
    IsPermutation (from_to first last link.sides.sent.items) (from_to first last link.sides.received.items)
-- sendings, so many from one on, have no receipt; all others are received, one by one
IsSo link (NoReceipt first count) =
    Explains (cause.NoReceipt count) link.sides.sent.items link.sides.received.items first
-- the same of one, which is the sending before it once more
IsSo link (SentTwice sending) =
    (slice_get link.sides.sent.items (sending - 2) ≡ slice_get link.sides.sent.items (sending - 1))
    × Explains (cause.NoReceipt 1) link.sides.sent.items link.sides.received.items sending
-- receipts, so many from one on, have no sending
IsSo link (NoSending first count writer) = (writer ≡ link.link)
    × Explains (cause.NoSending count) link.sides.sent.items link.sides.received.items first
-- the receipt is of the load before it once more
IsSo link (CameTwice receipt writer) = (writer ≡ link.link)
    × Explains cause.CameTwice link.sides.sent.items link.sides.received.items receipt
IsSo link (NeverSent writer load call) = (writer ≡ link.link) × IsNowhere link.sides.sent.items load
    × IfSome call (IsCallMissing link.logs.now writer load)
