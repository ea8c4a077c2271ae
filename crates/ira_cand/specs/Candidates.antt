-- The candidates of a log for what is asked of one node's state (Garg and Waldecker 1994).
use Rattle.std.specs.Prelude.{◌↔◌, ℕ, List, Contains}
use Rattle.std.specs.List.Sorted.{IsStrictlyIncreasing}
use Rattle.ira_event.specs.Log.{Log}
use Rattle.ira_pred.specs.Formula.{Formula}
use Rattle.ira_cand.specs.HoldsAt.{HoldsAt}

-- these are the candidates: the rising list of all positions at which the formula holds of the log's
-- state
pub record AreCandidates (log : Log) (f : Formula) (positions : List ℕ) : Type 0 where
  pub rising : IsStrictlyIncreasing positions
  pub members : (position : ℕ) → Contains positions position ↔ HoldsAt log f position
