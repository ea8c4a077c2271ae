-- At most one node leads: in a term, and at a consistent cut, at which the others are passive.
use Rattle.std.specs.Prelude.{◌≡◌, ◌≢◌, ℕ, List, Some, slice_get, slice_index, take}
use Rattle.ira_event.specs.Log.{Log}
use Rattle.ira_event.specs.Logs.{AreLogs, EachLog}
use Rattle.ira_node.specs.declared.node_state.NodeState.{NodeState}
use Rattle.ira_node.specs.declared.phase.Phase.TheVariants.{Passive}
use Rattle.ira_node.specs.NodeState.{first_state, IsLeader}
use Rattle.ira_replay.specs.LocalRun.{LeadsTo}
use Rattle.ira_order.specs.Cut.{IsConsistentCut}
use Rattle.ira_order.specs.Matching.{Matches}
use Rattle.ira_order.specs.Run.{AreLocalRuns}

-- after its first a events node i is in this state
pub record IsIn (logs : List Log) (i a : ℕ) (state : NodeState) : Type 0 where
  pub log : Log
  pub at : slice_get logs i ≡ Some log
  pub reached : LeadsTo log.nodes (first_state log.initiator) (take a log.events) state

-- after its first a events node i leads
pub record Leads (logs : List Log) (i a : ℕ) : Type 0 where
  pub state : NodeState
  pub is_in : IsIn logs i a state
  pub leads : IsLeader state.phase

-- two nodes that lead in one term are one
abbrev pub OneLeaderInATerm : Type 0
OneLeaderInATerm =
    (logs : List Log) → AreLogs logs → Matches logs → AreLocalRuns logs
    → (i a j b : ℕ) (x : Leads logs i a) (y : Leads logs j b) → x.state.term ≡ y.state.term → i ≡ j

-- of logs of version 1 two nodes that ever lead are one
abbrev pub OneLeaderOfVersion1 : Type 0
OneLeaderOfVersion1 =
    (logs : List Log) → AreLogs logs → EachLog logs (λ _ log. log.version ≡ 1) → Matches logs → AreLocalRuns logs
    → (i a j b : ℕ) → Leads logs i a → Leads logs j b → i ≡ j

-- two nodes that lead at one consistent cut are one
abbrev pub OneLeaderAtACut : Type 0
OneLeaderAtACut =
    (logs : List Log) (cut : List ℕ) → AreLogs logs → Matches logs → AreLocalRuns logs → IsConsistentCut logs cut
    → (i j : ℕ) → Leads logs i (slice_index cut i) → Leads logs j (slice_index cut j) → i ≡ j

-- where a node leads at a consistent cut, each other node is passive
abbrev pub OthersArePassive : Type 0
OthersArePassive =
    (logs : List Log) (cut : List ℕ) → AreLogs logs → Matches logs → AreLocalRuns logs → IsConsistentCut logs cut
    → (i j : ℕ) (state : NodeState) → i ≢ j → Leads logs i (slice_index cut i) → IsIn logs j (slice_index cut j) state
    → state.phase ≡ Passive
