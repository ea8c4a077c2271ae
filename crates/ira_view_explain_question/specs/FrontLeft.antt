-- What the steps of a section left of a node's candidates, and the line on it.
use Rattle.std.specs.Prelude.{◌≡◌, ℕ, ◌-◌, ◌≤◌, List, [], ◌++◌, MatchOption, Option, None, Some, codes, decimal}
use Rattle.std.specs.Prelude.{length, slice_get, take}
use Rattle.ira_event.specs.Log.{Log}
use Rattle.ira_node.specs.declared.node_state.NodeState.{NodeState}
use Rattle.ira_node.specs.NodeState.{first_state}
use Rattle.ira_pred.specs.Case.{Conjunct}
use Rattle.ira_replay.specs.LocalRun.{LeadsTo}
use Rattle.ira_cert_text.specs.declared.cert_step.CertStep.{CertStep}
use Rattle.ira_cert.specs.Conjuncts.{CandidatesOf, IsAsked}
use Rattle.ira_cert.specs.Front.{made}
use Rattle.ira_view_page.specs.declared.front.Front.{Front}
use Rattle.ira_view_page.specs.Numbers.{number_of_text}
use Rattle.ira_view_page.specs.Words.{state_text}

-- this is the state of the node after so many events
pub record IsStateAfter (logs : List Log) (node events : ℕ) (s : NodeState) : Type 0 where
  pub log : Log
  pub log_is : slice_get logs node ≡ Some log
  pub within : events ≤ length log.events
  pub leads : LeadsTo log.nodes (first_state log.initiator) (take events log.events) s

-- so many candidates of a node that the case asks are left after one for each step that eliminates a state of it, and
-- this is the first of them, with the state there
pub record IsLeft (logs : List Log) (case : List Conjunct) (steps : List CertStep) (front : Front) : Type 0 where
  pub positions : List ℕ
  pub candidates : CandidatesOf logs case front.node positions
  pub count : front.left ≡ length positions - made steps front.node
  pub first :
      MatchOption front.first (length positions ≤ made steps front.node)
      (λ at. (slice_get positions (made steps front.node) ≡ Some at.0) × IsStateAfter logs front.node at.0 at.1)

-- the same of any node: nothing where the case doesn't ask it
abbrev pub IsLeftOf : List Log → List Conjunct → List CertStep → ℕ → Option Front → Type 0
IsLeftOf logs case steps node left =
    MatchOption left (¬ (IsAsked case node)) (λ front. (front.node ≡ node) × IsLeft logs case steps front)

-- the first candidate and the state there, if there is one
abbrev pub first_text : Option (ℕ × NodeState) → List ℕ
first_text None = []
first_text (Some at) = codes ", the first " ++ decimal at.0 ++ codes ": " ++ state_text at.1

-- the line on a node that is asked
abbrev pub front_text : Option Front → List ℕ
front_text None = []
front_text (Some front) =
    codes "  node " ++ decimal front.node ++ codes ": " ++ number_of_text front.left (codes "candidate")
    ++ codes " left"
    ++ first_text front.first
    ++ codes "\n"
