-- Full runs of a setup: the runs of its ring that end only where no node can step.
use Rattle.std.specs.Prelude.{◌≡◌, ℕ, ◌<◌, List, [], ◌∷◌, ◌++◌, Some, length}
use Rattle.std.specs.List.{filter_map}
use Rattle.ira_event.specs.declared.load.Load.{Load}
use Rattle.ira_event.specs.declared.event.Event.{Event}
use Rattle.ira_event.specs.declared.event.Event.TheVariants.{Got}
use Rattle.ira_event.specs.Log.{Log}
use Rattle.ira_event.specs.Logs.{AreLogs, EachLog}
use Rattle.ira_event.specs.Messages.{drawn}
use Rattle.ira_node.specs.declared.phase.Phase.TheVariants.{Choosing}
use Rattle.ira_node.specs.declared.node_state.NodeState.{NodeState}
use Rattle.ira_node.specs.NodeState.{first_state, free, IsLeader}
use Rattle.ira_node.specs.NodeStep.{HasStep}
use Rattle.ira_order.specs.Ring.{prev}
use Rattle.ira_order.specs.Run.{Configuration, RingStep, event_of, IsRunOfLogs}
use Rattle.ira_ring_setup.specs.Terms.{version_of, IsLastLeader}
use Rattle.ira_ring_setup.specs.Setup.{Setup, is_initiator, node_draws}

-- each node is in the first state of its kind, and the links are empty
abbrev pub opening_of : Setup → Configuration
opening_of s = record { state = λ i. first_state (is_initiator s i); link = λ i. [] }

-- the events of node i among these, in their order
abbrev pub events_at : List (ℕ × Event) → ℕ → List Event
events_at run i = filter_map (event_of i) run

-- in a run of so many terms a node in this state, which has made these events, was given these IDs, and has
-- these loads before it, leads in a term before the last, or owes a load, or has to draw and has an unused
-- ID, or receives and the first load has a step
pub data HasEvent (n terms : ℕ) (ids : List ℕ) (state : NodeState) (events : List Event) (input : List Load)
    : Type 0 where
  yields : IsLeader state.phase → state.term < terms → HasEvent n terms ids state events input
  owes : (l : Load) → state.owed ≡ Some l → HasEvent n terms ids state events input
  chooses : (term round : ℕ) → state ≡ free term (Choosing round) → length (drawn events) < length ids
      → HasEvent n terms ids state events input
  receives : (l : Load) (others : List Load) → input ≡ l ∷ others → HasStep n state (Got l)
      → HasEvent n terms ids state events input

-- in configuration c, to which the events past led, node i can step: it is no leader in the last term, it
-- has made fewer events than the cap, and it leads in a term before the last, or owes a load, or has to draw
-- and has an unused ID, or receives and the first load on the link that leads to it has a step
pub record CanStep (s : Setup) (past : List (ℕ × Event)) (c : Configuration) (i : ℕ) : Type 0 where
  pub not_last : ¬ (IsLastLeader s.terms (c.state i))
  pub below_cap : length (events_at past i) < s.cap
  pub event : HasEvent s.nodes s.terms (node_draws s i) (c.state i) (events_at past i) (c.link (prev s.nodes i))

-- from configuration c, to which the events past led, these events, each with the place of its node,
-- lead by ring steps to configuration d, and each is of a node that can step at its point
abbrev pub Walks : Setup → List (ℕ × Event) → Configuration → List (ℕ × Event) → Configuration → Type 0
Walks s past c [] d = d ≡ c
Walks s past c (x ∷ xs) d = CanStep s past c x.0
    × ((b : Configuration) × RingStep s.nodes x.0 x.1 c b × Walks s (past ++ x ∷ []) b xs d)

-- a list begins with another
abbrev pub BeginsWith : {X : Type 0} → List X → List X → Type 0
BeginsWith {X} whole part = (rest : List X) × (whole ≡ part ++ rest)

-- a run of the setup's ring from its opening to configuration end: each place can step at its point,
-- the IDs that each node draws are the first of those that it was given, in their order, and at the end
-- no node can step
pub record IsFullRun (s : Setup) (run : List (ℕ × Event)) (end : Configuration) : Type 0 where
  pub walk : Walks s [] (opening_of s) run end
  pub draws : (i : ℕ) → i < s.nodes → BeginsWith (node_draws s i) (drawn (events_at run i))
  pub whole : (i : ℕ) → i < s.nodes → ¬ (CanStep s run end i)

-- logs of the setup's ring, of the version for its size and terms, each of its place and of its node's start kind
pub record AreLogsOf (s : Setup) (logs : List Log) : Type 0 where
  pub ring : AreLogs logs
  pub number : length logs ≡ s.nodes
  pub versions : EachLog logs (λ i log. log.version ≡ version_of s.nodes s.terms)
  pub kinds : EachLog logs (λ i log. log.initiator ≡ is_initiator s i)

-- the logs of a full run of the setup
pub record AreFullLogs (s : Setup) (logs : List Log) : Type 0 where
  pub of_setup : AreLogsOf s logs
  pub run : List (ℕ × Event)
  pub end : Configuration
  pub full : IsFullRun s run end
  pub events : IsRunOfLogs logs run
