-- What holds of a node after so many of its events.
use Rattle.std.specs.Prelude.{◌≡◌, ℕ, List, Some, slice_get}
use Rattle.ira_event.specs.Log.{Log}
use Rattle.ira_node.specs.declared.node_state.NodeState.{NodeState}
use Rattle.ira_pred.specs.Clause.{Holds}
use Rattle.ira_pred.specs.Formula.{Formula}
use Rattle.ira_replay.specs.StatesOfLog.{AreStatesOfLog}

-- the log's list of states has a state at the position, counted from 0, and the formula holds of it
pub record HoldsAt (log : Log) (f : Formula) (position : ℕ) : Type 0 where
  pub states : List NodeState
  pub states_are : AreStatesOfLog log states
  pub state : NodeState
  pub at : slice_get states position ≡ Some state
  pub holds : Holds f state
