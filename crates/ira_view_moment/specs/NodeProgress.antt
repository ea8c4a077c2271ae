-- How far a node has come along its log.
use Rattle.std.specs.Prelude.{◌≡◌, ◌⊎◌, ℕ, zero, suc, ◌+◌, ◌≤◌, Bool, count_by, is_some, length, take}
use Rattle.ira_event.specs.declared.event.Event.{Event}
use Rattle.ira_event.specs.Log.{Log}
use Rattle.ira_event.specs.Messages.{drawing, sent, got}
use Rattle.ira_node.specs.declared.node_state.NodeState.{NodeState}
use Rattle.ira_node.specs.NodeState.{first_state}
use Rattle.ira_replay.specs.LocalRun.{LeadsTo}
use Rattle.ira_view_moment.specs.declared.node_progress.NodeProgress.{NodeProgress}

-- the first a events of the log lead to the state
abbrev pub Reaches : Log → ℕ → NodeState → Type 0
Reaches log a state = LeadsTo log.nodes (first_state log.initiator) (take a log.events) state

-- event a + 1 leaves the node as it was: it is a message that an active node drops
abbrev pub IsDropped : Log → ℕ → Type 0
IsDropped log a = (state : NodeState) × Reaches log a state × Reaches log (a + 1) state

-- k of the numbers below n have the property
abbrev pub IsNumberBelow : (ℕ → Type 0) → ℕ → ℕ → Type 0
IsNumberBelow P zero k = k ≡ 0
IsNumberBelow P (suc n) k = (P n × ((j : ℕ) × IsNumberBelow P n j × (k ≡ suc j))) ⊎ (¬ (P n) × IsNumberBelow P n k)

-- the event is a draw
abbrev pub is_draw : Event → Bool
is_draw e = is_some (drawing e)

-- where the node has come after its first a events
pub record IsProgress (log : Log) (a : ℕ) (p : NodeProgress) : Type 0 where
  pub within : a ≤ length log.events
  pub events : p.events ≡ a
  pub state : Reaches log a p.state
  pub draws : p.draws ≡ count_by is_draw (take a log.events)
  pub sent : p.sent ≡ length (sent (take a log.events))
  pub received : p.received ≡ length (got (take a log.events))
  pub dropped : IsNumberBelow (IsDropped log) a p.dropped
