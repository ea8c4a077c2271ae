-- Runs go on: what stands first on a link has a step, and a ring that isn't at its end has one, limits aside.
use Rattle.std.specs.Prelude.{◌≡◌, ℕ, ◌<◌, ◌≤◌, ◌⊎◌, Bool, true, List, ◌∷◌, ◌++◌, None, slice_index, take, length}
use Rattle.ira_event.specs.Limits.{MAX_NUMBER}
use Rattle.ira_event.specs.declared.event.Event.{Event}
use Rattle.ira_event.specs.declared.event.Event.TheVariants.{Got}
use Rattle.ira_event.specs.declared.load.Load.{Load}
use Rattle.ira_event.specs.declared.load.Load.TheVariants.{Msg as Message, Reset}
use Rattle.ira_event.specs.Log.{Log}
use Rattle.ira_event.specs.Logs.{AreLogs}
use Rattle.ira_node.specs.declared.node_state.NodeState.{NodeState}
use Rattle.ira_node.specs.declared.phase.Phase.TheVariants.{Active}
use Rattle.ira_node.specs.NodeState.{Receives, IsLeader}
use Rattle.ira_node.specs.NodeStep.{HasStep}
use Rattle.ira_order.specs.Cut.{IsConsistentCut}
use Rattle.ira_order.specs.Matching.{Matches, sent, got}
use Rattle.ira_order.specs.Ring.{log_of, prev}
use Rattle.ira_order.specs.Run.{Configuration, RingStep, AreLocalRuns}
use Rattle.ira_safety.specs.OneLeader.{IsIn}
use Rattle.ira_safety.specs.Reaches.{Reaches, beginning}
use Rattle.ira_election.specs.Ending.{IsOver}

-- the load is past the limits of numbers: a message by its hop, or by the round after which the node would choose
-- again, a reset by the term
abbrev pub IsPastLimits : ℕ → NodeState → Load → Type 0
IsPastLimits n s (Message m) =
    ((MAX_NUMBER ≤ m.hop) × (m.hop ≤ n)) ⊎ ((MAX_NUMBER ≤ m.round) × (s.phase ≡ Active m.round m.id))
IsPastLimits n s (Reset h) = MAX_NUMBER ≤ s.term

-- in a configuration of a run, what stands first on the link to a node that owes nothing and waits has a step there,
-- limits aside: of a ring of at least two nodes
abbrev pub LoadsHaveSteps : Type 0
LoadsHaveSteps =
    (n : ℕ) (initiators : ℕ → Bool) (run : List (ℕ × Event)) (c : Configuration) (i : ℕ) (l : Load) (ls : List Load)
    → 2 ≤ n → Reaches n (beginning initiators) run c → i < n → (c.state i).owed ≡ None → Receives (c.state i).phase
    → c.link (prev n i) ≡ l ∷ ls → HasStep n (c.state i) (Got l) ⊎ IsPastLimits n (c.state i) l

-- at a consistent cut of logs that match, and all of whose events have steps, what comes first of what is on its way to
-- a node that owes nothing and waits has a step there
abbrev pub LoadsAtCutsHaveSteps : Type 0
LoadsAtCutsHaveSteps =
    (logs : List Log) (cut : List ℕ) (i : ℕ) (state : NodeState) (l : Load) (ls : List Load) → AreLogs logs
    → Matches logs → AreLocalRuns logs → IsConsistentCut logs cut → IsIn logs i (slice_index cut i) state
    → state.owed ≡ None → Receives state.phase
    → sent (take (slice_index cut (prev (length logs) i)) (log_of logs (prev (length logs) i)))
    ≡ got (take (slice_index cut i) (log_of logs i)) ++ l ∷ ls
    → HasStep (length logs) state (Got l)

-- a node leads, and the election is over
pub record HasEnded (n : ℕ) (c : Configuration) : Type 0 where
  pub i : ℕ
  pub place : i < n
  pub leads : IsLeader (c.state i).phase
  pub over : IsOver n i c

-- some node has a step
pub record HasRingStep (n : ℕ) (c : Configuration) : Type 0 where
  pub i : ℕ
  pub event : Event
  pub next : Configuration
  pub step : RingStep n i event c next

-- a node that owes nothing and waits has a load before it that is past the limits
pub record HasLimit (n : ℕ) (c : Configuration) : Type 0 where
  pub i : ℕ
  pub place : i < n
  pub owes : (c.state i).owed ≡ None
  pub waits : Receives (c.state i).phase
  pub load : Load
  pub rest : List Load
  pub link : c.link (prev n i) ≡ load ∷ rest
  pub past : IsPastLimits n (c.state i) load

-- a configuration of a run of a ring of at least two nodes, one of which is an initiator: a node leads and the election
-- is over, or some node has a step, or a limit is met
abbrev pub RunsGoOn : Type 0
RunsGoOn =
    (n : ℕ) (initiators : ℕ → Bool) (run : List (ℕ × Event)) (c : Configuration) (k : ℕ) → 2 ≤ n
    → Reaches n (beginning initiators) run c → k < n → initiators k ≡ true
    → HasEnded n c ⊎ (HasRingStep n c ⊎ HasLimit n c)
