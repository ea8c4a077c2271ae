-- Candidates that are left of a node, and the states there.
use Rattle.std.proofs.Common.{◌≡◌, ℕ, List, Contains, Some}
use Rattle.std.specs.Prelude.{option_map, slice_get}
use Rattle.std.proofs.lemmas.Option.{get_or_from_slice_get, slice_get_within}
use Rattle.ira_cand.specs.Candidates.{AreCandidates}
use Rattle.ira_cert.proofs.CaseQueues.{conjunct_at}
use Rattle.ira_pred.specs.Formula.{Formula}
use Rattle.ira_event.specs.Log.{Log}
use Rattle.ira_node.specs.declared.node_state.NodeState.{NodeState}
use Rattle.ira_node.specs.NodeState.{first_state}
use Rattle.ira_pred.specs.Case.{Conjunct}
use Rattle.ira_replay.proofs.Reached.{states_are_reached}
use Rattle.ira_cert.specs.Conjuncts.{CandidatesOf}
use Rattle.ira_view_explain_question.specs.FrontLeft.{IsStateAfter}

-- a node has a state at each of its candidates
pub state_there : (logs : List Log) (case : List Conjunct) (node k p : ℕ) (positions : List ℕ)
    → CandidatesOf logs case node positions → slice_get positions k ≡ Some p
    → (s : NodeState) × IsStateAfter logs node p s
state_there logs case node k p positions are at =
    let is : Contains positions p = (k, slice_get_within positions k p at, get_or_from_slice_get positions k p p at) in
    let holds = (are.candidates_are.members p).0 is in
    let reached = (states_are_reached are.log.nodes (first_state are.log.initiator) are.log.events holds.states
    holds.states_are p holds.state).0 holds.at in
    (holds.state, record { log = are.log; log_is = are.log_is; within = reached.0; leads = reached.1 })

-- these are the candidates of the node that a clause asks
pub are_candidates : (logs : List Log) (case : List Conjunct) (n node : ℕ) (f : Formula) (log : Log)
    (positions : List ℕ)
    → option_map (λ c. c.place) (slice_get case n) ≡ Some node → option_map (λ c. c.formula) (slice_get case n) ≡ Some f
    → slice_get logs node ≡ Some log → AreCandidates log f positions → CandidatesOf logs case node positions
are_candidates logs case n node f log positions place formula at are = record {
  formula = f;
  asked = conjunct_at case n node f place formula;
  log = log;
  log_is = at;
  candidates_are = are;
}
