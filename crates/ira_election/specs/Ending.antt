-- The end of an election: where a node leads, all else is at rest.
use Rattle.std.specs.Prelude.{◌≡◌, ◌≢◌, ℕ, ◌<◌, ◌≤◌, Bool, List, [], ◌∷◌, None, slice_index}
use Rattle.ira_event.specs.declared.event.Event.{Event}
use Rattle.ira_event.specs.Log.{Log}
use Rattle.ira_event.specs.Logs.{AreLogs}
use Rattle.ira_node.specs.declared.node_state.NodeState.{NodeState}
use Rattle.ira_node.specs.declared.phase.Phase.TheVariants.{Passive}
use Rattle.ira_node.specs.NodeState.{IsLeader}
use Rattle.ira_order.specs.Cut.{IsConsistentCut}
use Rattle.ira_order.specs.Matching.{Matches}
use Rattle.ira_order.specs.Run.{Configuration, AreLocalRuns}
use Rattle.ira_safety.specs.OneLeader.{IsIn, Leads}
use Rattle.ira_safety.specs.Reaches.{Reaches, beginning}
use Rattle.ira_safety.specs.TwoNodes.{one_elected}
use Rattle.ira_election.specs.StandingStill.{IsEmptyLink}

-- but for node i all is at rest: no link holds a load, no node owes one, and each other one is passive, in
-- node i's term
pub record IsOver (n i : ℕ) (c : Configuration) : Type 0 where
  pub empty : (j : ℕ) → j < n → c.link j ≡ []
  pub owes : (j : ℕ) → j < n → (c.state j).owed ≡ None
  pub term : (j : ℕ) → j < n → (c.state j).term ≡ (c.state i).term
  pub passive : (j : ℕ) → j < n → j ≢ i → (c.state j).phase ≡ Passive

-- where a node leads in a configuration of a run, the election is over: of a ring of at least two nodes
abbrev pub LeadersEndElections : Type 0
LeadersEndElections =
    (n : ℕ) (initiators : ℕ → Bool) (run : List (ℕ × Event)) (c : Configuration) (i : ℕ) → 2 ≤ n
    → Reaches n (beginning initiators) run c → i < n → IsLeader (c.state i).phase → IsOver n i c

-- at the cut node j, in this state, is at rest, where node i leads: its link holds no load and it owes none, and it
-- is in the leader's term, and passive where it isn't node i
pub record IsAtRest (logs : List Log) (cut : List ℕ) (i j : ℕ) (leader state : NodeState) : Type 0 where
  pub empty : IsEmptyLink logs cut j
  pub owes : state.owed ≡ None
  pub term : state.term ≡ leader.term
  pub passive : j ≢ i → state.phase ≡ Passive

-- where a node leads at a consistent cut of logs that match, and all of whose events have steps, each node is at rest
abbrev pub ElectionsEndAtCuts : Type 0
ElectionsEndAtCuts =
    (logs : List Log) (cut : List ℕ) → AreLogs logs → Matches logs → AreLocalRuns logs → IsConsistentCut logs cut
    → (i j : ℕ) (state : NodeState) (leader : Leads logs i (slice_index cut i)) → IsIn logs j (slice_index cut j) state
    → IsAtRest logs cut i j leader.state state

-- at a cut that isn't consistent a node may lead while its message is on its way: in the logs of two nodes of which
-- node 0 is elected, after all its events and none of the other's
abbrev pub LeadsBeforeTheEnd : Type 0
LeadsBeforeTheEnd = Leads one_elected 0 3 × ¬ (IsEmptyLink one_elected (3 ∷ 0 ∷ []) 0)
