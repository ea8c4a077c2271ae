-- The least consistent cut that meets a case (Garg and Waldecker 1994).
use Rattle.std.specs.Prelude.{ℕ, ◌<◌, ◌≤◌, List, length, slice_index}
use Rattle.ira_event.specs.Log.{Log}
use Rattle.ira_pred.specs.Case.{Conjunct}
use Rattle.ira_order.specs.Cut.{IsConsistentCut}
use Rattle.ira_cand.specs.Meets.{Meets}

-- it is consistent and meets the case, and every consistent cut that meets the case is at or above it in
-- each place
pub record IsLeastCut (logs : List Log) (case : List Conjunct) (cut : List ℕ) : Type 0 where
  pub consistent : IsConsistentCut logs cut
  pub meets : Meets logs case cut
  pub least :
      (other : List ℕ) → IsConsistentCut logs other → Meets logs case other
      → (i : ℕ) → i < length logs → slice_index cut i ≤ slice_index other i
