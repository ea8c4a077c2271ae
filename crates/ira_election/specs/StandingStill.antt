-- No ring stands still: no configuration that a run comes to, and no consistent cut of logs.
use Rattle.std.specs.Prelude.{◌≡◌, ℕ, ◌<◌, ◌≤◌, Bool, true, false, List, [], Some, None, slice_get, slice_index, take}
use Rattle.std.specs.Prelude.{length}
use Rattle.ira_event.specs.declared.event.Event.{Event}
use Rattle.ira_event.specs.Log.{Log}
use Rattle.ira_event.specs.Logs.{AreLogs}
use Rattle.ira_node.specs.declared.node_state.NodeState.{NodeState}
use Rattle.ira_node.specs.NodeState.{Receives}
use Rattle.ira_order.specs.Cut.{IsConsistentCut}
use Rattle.ira_order.specs.Matching.{Matches, sent, got}
use Rattle.ira_order.specs.Ring.{log_of, next}
use Rattle.ira_order.specs.Run.{Configuration, AreLocalRuns}
use Rattle.ira_safety.specs.OneLeader.{IsIn}
use Rattle.ira_safety.specs.Reaches.{Reaches, beginning}

-- each node owes nothing and waits for a load, and its link holds none
pub record IsStill (n : ℕ) (c : Configuration) : Type 0 where
  pub owes : (i : ℕ) → i < n → (c.state i).owed ≡ None
  pub waits : (i : ℕ) → i < n → Receives (c.state i).phase
  pub empty : (i : ℕ) → i < n → c.link i ≡ []

-- of a ring of at least two nodes, one of which is an initiator, no run comes to a configuration that is still:
-- whatever they draw, and however often leaders yield
abbrev pub NoRunStandsStill : Type 0
NoRunStandsStill =
    (n : ℕ) (initiators : ℕ → Bool) (run : List (ℕ × Event)) (c : Configuration) (k : ℕ) → 2 ≤ n
    → Reaches n (beginning initiators) run c → k < n → initiators k ≡ true → IsStill n c → ⊥

-- a ring without an initiator is still as it begins
abbrev pub StillWithoutInitiators : Type 0
StillWithoutInitiators = (n : ℕ) → IsStill n (beginning (λ i. false))

-- at the cut the next node has received all that node i has sent
abbrev pub IsEmptyLink : List Log → List ℕ → ℕ → Type 0
IsEmptyLink logs cut i = sent (take (slice_index cut i) (log_of logs i))
    ≡ got (take (slice_index cut (next (length logs) i)) (log_of logs (next (length logs) i)))

-- at the cut node i owes nothing and waits for a load, and its link holds none
pub record IsStillAt (logs : List Log) (cut : List ℕ) (i : ℕ) : Type 0 where
  pub state : NodeState
  pub is_in : IsIn logs i (slice_index cut i) state
  pub owes : state.owed ≡ None
  pub waits : Receives state.phase
  pub empty : IsEmptyLink logs cut i

-- of logs that match, and all of whose events have steps, one of which is an initiator's: at no consistent cut are all
-- nodes still
abbrev pub NoCutStandsStill : Type 0
NoCutStandsStill =
    (logs : List Log) (cut : List ℕ) (k : ℕ) (log : Log) → AreLogs logs → Matches logs → AreLocalRuns logs
    → IsConsistentCut logs cut → slice_get logs k ≡ Some log → log.initiator ≡ true
    → ((i : ℕ) → i < length logs → IsStillAt logs cut i) → ⊥
