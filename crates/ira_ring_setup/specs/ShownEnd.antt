-- What the way in which a node ended says of its log and of the loads sent to it.
use Rattle.std.specs.Prelude.{◌≡◌, ◌≢◌, ℕ, ◌<◌, List, [], ◌∷◌, ◌++◌, None, Some, length, slice_get}
use Rattle.ira_event.specs.declared.load.Load.{Load}
use Rattle.ira_event.specs.declared.event.Event.{Event}
use Rattle.ira_event.specs.declared.event.Event.TheVariants.{Got}
use Rattle.ira_event.specs.Log.{Log}
use Rattle.ira_node.specs.declared.phase.Phase.TheVariants.{Choosing}
use Rattle.ira_node.specs.declared.node_state.NodeState.{NodeState}
use Rattle.ira_node.specs.NodeState.{first_state, free, Receives}
use Rattle.ira_node.specs.NodeStep.{HasStep}
use Rattle.ira_replay.specs.LocalRun.{LeadsTo}
use Rattle.ira_order.specs.Ring.{prev, log_of}
use Rattle.ira_order.specs.Matching.{sent, got}
use Rattle.ira_ring_setup.specs.declared.node_end.NodeEnd.{NodeEnd}
use Rattle.ira_ring_setup.specs.declared.node_end.NodeEnd.TheVariants.{Leader, Stopped, DrawsSpent, LogFull, NoStep, Quiet}
use Rattle.ira_ring_setup.specs.Terms.{IsLastLeader}
use Rattle.ira_ring_setup.specs.Setup.{Setup, is_initiator, node_draws}
use Rattle.ira_event.specs.Messages.{drawn}
use Rattle.ira_ring_setup.specs.FullRun.{BeginsWith, AreFullLogs}
use Rattle.ira_ring_setup.specs.Run.{Run}

-- in a run of so many terms a node in this state that has made these events doesn't lead in the last term, and
-- has made fewer than the cap
abbrev pub MayGoOn : ℕ → ℕ → NodeState → List Event → Type 0
MayGoOn cap terms state events = ¬ (IsLastLeader terms state) × (length events < cap)

-- a node in this state that has made these events may go on, owes no load, and receives next
abbrev pub Waits : ℕ → ℕ → NodeState → List Event → Type 0
Waits cap terms state events = MayGoOn cap terms state events × (state.owed ≡ None) × Receives state.phase

-- a node in this state has to draw
abbrev pub HasToDraw : NodeState → Type 0
HasToDraw state = (term : ℕ) × (round : ℕ) × (state ≡ free term (Choosing round))

-- what an end says of node i, where its events led it to this state and these loads were sent to
-- it; Quiet and Stopped say the same, one where a node runs alone, the other where its thread was told
abbrev pub Says : Setup → ℕ → NodeState → List Event → List Load → NodeEnd → Type 0
-- it leads, in the last term or in a later one
Says s i state events input Leader = IsLastLeader s.terms state
-- it doesn't, and has made as many events as it may
Says s i state events input LogFull = ¬ (IsLastLeader s.terms state) × (length events ≡ s.cap)
-- it may go on, has to draw, and has drawn all IDs that it was given
Says s i state events input DrawsSpent = MayGoOn s.cap s.terms state events × HasToDraw state
    × (drawn events ≡ node_draws s i)
-- it waits, and the load has no step and is the next one sent to it after those that it received
Says s i state events input (NoStep l) = Waits s.cap s.terms state events × ¬ (HasStep s.nodes state (Got l))
    × BeginsWith input (got events ++ l ∷ [])
-- it waits, and has received all loads that were sent to it
Says s i state events input Quiet = Waits s.cap s.terms state events × (got events ≡ input)
Says s i state events input Stopped = Waits s.cap s.terms state events × (got events ≡ input)

-- the end is shown by the logs: the events of node i lead to a state, and what the end says of it, of
-- these events and of the sendings of the node before it is so
abbrev pub IsShown : Setup → List Log → ℕ → NodeEnd → Type 0
IsShown s logs i end =
    (state : NodeState) × LeadsTo s.nodes (first_state (is_initiator s i)) (log_of logs i) state
    × Says s i state (log_of logs i) (sent (log_of logs (prev s.nodes i))) end

-- each end is shown
abbrev pub AreShown : Setup → List Log → List NodeEnd → Type 0
AreShown s logs ends = (i : ℕ) (end : NodeEnd) → slice_get ends i ≡ Some end → IsShown s logs i end

-- the logs of a full run of the setup, and for each node an end, which the logs show; none is Stopped
pub record IsLoneRun (s : Setup) (run : Run) : Type 0 where
  pub logs : AreFullLogs s run.logs
  pub many : length run.ends ≡ s.nodes
  pub ends : AreShown s run.logs run.ends
  pub none_stopped : (i : ℕ) → slice_get run.ends i ≢ Some Stopped
