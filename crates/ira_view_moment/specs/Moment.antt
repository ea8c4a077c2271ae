-- A ring at a consistent cut of its logs.
use Rattle.std.specs.Prelude.{◌≡◌, ℕ, ◌<◌, List, ◌++◌, ◌↔◌, Contains, Some, length, map, slice_get, slice_index, take}
use Rattle.ira_event.specs.declared.load.Load.{Load}
use Rattle.ira_event.specs.Log.{Log}
use Rattle.ira_node.specs.NodeState.{IsLeader}
use Rattle.ira_order.specs.Matching.{got, sent}
use Rattle.ira_order.specs.Ring.{log_of, next}
use Rattle.ira_view_moment.specs.declared.node_progress.NodeProgress.{NodeProgress}
use Rattle.ira_view_moment.specs.NodeProgress.{IsProgress}

-- how far each node has come, and the loads on each link
pub record Moment : Type 0 where
  pub nodes : List NodeProgress
  pub links : List (List Load)

-- on link i these loads are on their way: received, then on their way, is sent
abbrev pub AreOnTheirWay : List Log → List ℕ → ℕ → List Load → Type 0
AreOnTheirWay logs cut i loads =
    sent (take (slice_index cut i) (log_of logs i))
    ≡ got (take (slice_index cut (next (length logs) i)) (log_of logs (next (length logs) i))) ++ loads

-- the moment is that of the cut: each node has come to its position, and each link holds what is on its way
pub record IsMoment (logs : List Log) (cut : List ℕ) (m : Moment) : Type 0 where
  pub places : length m.nodes ≡ length logs
  pub links : length m.links ≡ length logs
  pub nodes :
      (i : ℕ) (log : Log) (p : NodeProgress) → slice_get logs i ≡ Some log → slice_get m.nodes i ≡ Some p
      → IsProgress log (slice_index cut i) p
  pub on_their_way : (i : ℕ) (loads : List Load) → slice_get m.links i ≡ Some loads → AreOnTheirWay logs cut i loads

-- the cut that holds all events
abbrev pub whole_cut : List Log → List ℕ
whole_cut logs = map (λ log. length log.events) logs

-- node i leads at the moment
pub record LeadsAt (m : Moment) (i : ℕ) : Type 0 where
  pub progress : NodeProgress
  pub at : slice_get m.nodes i ≡ Some progress
  pub leads : IsLeader progress.state.phase

-- exactly the named nodes lead
abbrev pub AreLeaders : Moment → List ℕ → Type 0
AreLeaders m named = (i : ℕ) → i < length m.nodes → LeadsAt m i ↔ Contains named i
