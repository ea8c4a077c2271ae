-- Helpers, no definitions: the candidates as a function, to which proofs tie the code. That it gives
-- what Candidates says is proved.
use Rattle.std.specs.Prelude.{ℕ, List, Some}
use Rattle.ira_event.specs.Log.{Log}
use Rattle.ira_node.specs.NodeState.{first_state}
use Rattle.ira_pred.specs.ClauseAnswer.{holds_test}
use Rattle.ira_pred.specs.Formula.{Formula}
use Rattle.ira_replay.specs.StatesLeft.{states_left}
use Rattle.ira_cand.specs.Holding.{positions_passing}

-- the positions of the log's states at which the formula's test gives true
abbrev pub candidates_of : Log → Formula → List ℕ
candidates_of log f = positions_passing (holds_test f)
    (states_left log.nodes (Some (0, first_state log.initiator)) log.events)
