-- What the nodes of a ring record, each in a thread of its own or however else.
use Rattle.std.specs.Prelude.{◌≡◌, ◌≢◌, ℕ, ◌≤◌, Bool, List, Some, length, slice_get}
use Rattle.ira_event.specs.declared.event.Event.{Event}
use Rattle.ira_event.specs.declared.event.Event.TheVariants.{Got}
use Rattle.ira_event.specs.Log.{Log}
use Rattle.ira_event.specs.Logs.{EachLog}
use Rattle.ira_node.specs.declared.node_state.NodeState.{NodeState}
use Rattle.ira_node.specs.NodeState.{first_state}
use Rattle.ira_node.specs.NodeStep.{HasStep}
use Rattle.ira_replay.specs.LocalRun.{LeadsTo, IsLocalRun}
use Rattle.ira_order.specs.Ring.{prev, log_of}
use Rattle.ira_order.specs.Matching.{sent, got}
use Rattle.ira_ring_setup.specs.declared.node_end.NodeEnd.{NodeEnd}
use Rattle.ira_ring_setup.specs.declared.node_end.NodeEnd.TheVariants.{Leader, Stopped, DrawsSpent, LogFull, NoStep, Quiet}
use Rattle.ira_ring_setup.specs.Terms.{version_of, IsLastLeader, YieldsBelow}
use Rattle.ira_ring_setup.specs.Setup.{Setup, is_initiator, node_draws}
use Rattle.ira_event.specs.Messages.{drawn}
use Rattle.ira_ring_setup.specs.FullRun.{BeginsWith, AreLogsOf}
use Rattle.ira_ring_setup.specs.Run.{Run}
use Rattle.ira_ring_setup.specs.ShownEnd.{MayGoOn, Waits, HasToDraw, AreShown}

-- in a ring of n nodes and a run of so many terms, what the end of a node that runs in a thread says of its
-- own log: of the state that its events led to, of their number, and of the draws among them
abbrev pub EndsAs : ℕ → ℕ → ℕ → List ℕ → NodeState → List Event → NodeEnd → Type 0
-- it leads, in the last term or in a later one
EndsAs n cap terms ids state events Leader = IsLastLeader terms state
-- it doesn't, and its log is full
EndsAs n cap terms ids state events LogFull = ¬ (IsLastLeader terms state) × (length events ≡ cap)
-- it may go on, has to draw, and has drawn all IDs that it was given
EndsAs n cap terms ids state events DrawsSpent = MayGoOn cap terms state events × HasToDraw state × (drawn events ≡ ids)
-- it waits for a load, and this one has no step
EndsAs n cap terms ids state events (NoStep l) = Waits cap terms state events × ¬ (HasStep n state (Got l))
-- it waits for a load
EndsAs n cap terms ids state events Stopped = Waits cap terms state events
-- no thread ends so
EndsAs n cap terms ids state events Quiet = ⊥

-- node i of a ring of n nodes, with this start kind, these IDs to draw, this cap and so many terms, recorded
-- this log and ended so
pub record IsRecorded (n i : ℕ) (initiator : Bool) (ids : List ℕ) (cap terms : ℕ) (log : Log) (how : NodeEnd)
    : Type 0 where
  -- the log is of the version for that ring and so many terms, and of that ring, that place and that start kind
  pub version : log.version ≡ version_of n terms
  pub nodes : log.nodes ≡ n
  pub place : log.place ≡ i
  pub kind : log.initiator ≡ initiator
  -- its events lead from the first state of that kind to this one
  pub state : NodeState
  pub run : LeadsTo n (first_state initiator) log.events state
  -- they are no more than the cap
  pub count : length log.events ≤ cap
  -- the IDs that they draw are the first of those to draw
  pub draws : BeginsWith ids (drawn log.events)
  -- its node yielded in terms before the last alone
  pub yields : YieldsBelow terms n (first_state initiator) log.events
  -- what the end says of that state and of the events is so
  pub end : EndsAs n cap terms ids state log.events how

-- what the nodes of a setup's ring recorded: each log is a local run, and what it received was sent by the
-- node before it, in that order; nothing is said of an order of the events of different nodes
pub record IsRecording (s : Setup) (run : Run) : Type 0 where
  -- they are logs of the ring, of the version for its terms, one for each node, of its place and its start kind
  pub logs : AreLogsOf s run.logs
  -- each log is a local run
  pub runs : EachLog run.logs (λ i log. IsLocalRun log)
  -- it has at most as many events as the setup allows
  pub counts : EachLog run.logs (λ i log. length log.events ≤ s.cap)
  -- the IDs that its node drew are the first of those that it was given
  pub draws : EachLog run.logs (λ i log. BeginsWith (node_draws s i) (drawn log.events))
  -- its node yielded in terms before the last alone
  pub yields : EachLog run.logs (λ i log. YieldsBelow s.terms s.nodes (first_state (is_initiator s i)) log.events)
  -- the loads that it received are the first of those that the node before it sent
  pub links : EachLog run.logs (λ i log. BeginsWith (sent (log_of run.logs (prev s.nodes i))) (got log.events))
  -- there is an end for each node
  pub many : length run.ends ≡ s.nodes
  -- the logs show each end
  pub ends : AreShown s run.logs run.ends
  -- no end is Quiet
  pub none_quiet : (i : ℕ) → slice_get run.ends i ≢ Some Quiet

-- not every node ended because the node before it had
abbrev pub HasOwnEnd : Run → Type 0
HasOwnEnd run = (i : ℕ) × (end : NodeEnd) × (slice_get run.ends i ≡ Some end) × (end ≢ Stopped)
