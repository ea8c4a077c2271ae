-- Where a node receives its own pair.
use Rattle.std.specs.Prelude.{◌≡◌, ◌==◌, ◌&&◌, ◌≤◌, ℕ, ◌+◌, None, Option, Some, if◌then◌else◌, slice_get, take}
use Rattle.ira_event.specs.Log.{Log}
use Rattle.ira_event.specs.declared.event.Event.{Event}
use Rattle.ira_event.specs.declared.event.Event.TheVariants.{Got}
use Rattle.ira_event.specs.declared.load.Load.TheVariants.{Msg as Message}
use Rattle.ira_node.specs.NodeState.{first_state}
use Rattle.ira_node.specs.declared.node_state.NodeState.{NodeState}
use Rattle.ira_node.specs.declared.phase.Phase.{Phase}
use Rattle.ira_node.specs.declared.phase.Phase.TheVariants.{Active}
use Rattle.ira_replay.specs.LocalRun.{LeadsTo}
use Rattle.ira_view_show.specs.declared.own_receipt.OwnReceipt.{OwnReceipt}

-- after so many events the node is active with the round and the ID of the message that it receives then
pub record ReceivesOwn (log : Log) (receipt : OwnReceipt) : Type 0 where
  pub events : ℕ
  pub position : receipt.position ≡ events + 1
  pub event : slice_get log.events events ≡ Some (Got (Message receipt.message))
  pub state : NodeState
  pub before : LeadsTo log.nodes (first_state log.initiator) (take events log.events) state
  pub own : state.phase ≡ Active receipt.message.round receipt.message.id

-- and none comes later
pub record IsLastOwn (log : Log) (receipt : OwnReceipt) : Type 0 where
  pub receives : ReceivesOwn log receipt
  pub last : (other : OwnReceipt) → ReceivesOwn log other → other.position ≤ receipt.position

-- or there is none
abbrev pub HasNoOwn : Log → Type 0
HasNoOwn log = (receipt : OwnReceipt) → ¬ (ReceivesOwn log receipt)

-- ---- Helpers, no definitions.

-- the event after so many, where it is such a receipt of a node in this phase
abbrev pub own_receipt_of : ℕ → Option Event → Phase → Option OwnReceipt
own_receipt_of events (Some (Got (Message m))) (Active round id) =
    if m.round == round && m.id == id then Some (record { position = events + 1; message = m }) else None
own_receipt_of events event phase = None
