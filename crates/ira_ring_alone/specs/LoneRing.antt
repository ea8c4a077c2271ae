-- Helpers, no definitions: what the lone runner keeps of the ring, and what a step of it changes.
use Rattle.std.specs.Prelude.{◌≡◌, ◌≢◌, ℕ, ◌+◌, ◌<◌, ◌⊎◌, List, [], ◌++◌, false, Option, Some, None, length, slice_get}
use Rattle.std.specs.Prelude.{slice_index_or}
use Rattle.ira_event.specs.declared.load.Load.{Load}
use Rattle.ira_event.specs.declared.event.Event.{Event}
use Rattle.ira_event.specs.Log.{Log}
use Rattle.ira_node.specs.declared.node_state.NodeState.{NodeState}
use Rattle.ira_node.specs.NodeState.{first_state}
use Rattle.ira_order.specs.Ring.{next, prev}
use Rattle.ira_order.specs.Run.{Configuration}
use Rattle.ira_ring_setup.specs.declared.node_end.NodeEnd.{NodeEnd}
use Rattle.ira_ring_setup.specs.Setup.{Setup, is_initiator, node_draws}
use Rattle.ira_ring_setup.specs.Terms.{version_of}
use Rattle.ira_event.specs.Messages.{drawn, sending}
use Rattle.ira_ring_setup.specs.FullRun.{opening_of, events_at, Walks}
use Rattle.ira_ring_alone.specs.LoneNode.{LoneNode, Ends, HasNoNext, GoesToSending, after_event, after_put}

-- a node that has done nothing and has nothing to do
abbrev pub idle : LoneNode
idle = record { state = first_state false; ids = []; input = []; events = [] }

-- the node at place i
abbrev pub node_at : List LoneNode → ℕ → LoneNode
node_at nodes i = slice_index_or nodes i idle

-- node i becomes this one, the load sent is last on the link that leads to the next one, and all else
-- is as it was
abbrev pub IsPut : ℕ → ℕ → Option Load → LoneNode → List LoneNode → List LoneNode → Type 0
IsPut n i None node old new = (node_at new i ≡ node) × ((j : ℕ) → j ≢ i → node_at new j ≡ node_at old j)
IsPut n i (Some l) node old new =
    (node_at new i ≡ node)
    × (node_at new (next n i) ≡ after_put (node_at old (next n i)) l)
    × ((j : ℕ) → j ≢ i → j ≢ next n i → node_at new j ≡ node_at old j)

-- node i has made the event, which led it to this state: what it sends is last on the link that leads to the next node,
-- and all else is as it was
abbrev pub IsMoved : ℕ → ℕ → Event → NodeState → List LoneNode → List LoneNode → Type 0
IsMoved n i e after old new = IsPut n i (sending e) (after_event (node_at old i) e after) old new

-- what a turn of node i does: its events up to its next sending, where there is one
pub record IsTurn (n most terms i : ℕ) (old new : List LoneNode) (sent : Option Load) : Type 0 where
  pub node : LoneNode
  pub goes : GoesToSending n most terms (node_at old i) node sent
  pub put : IsPut n i sent node old new
  pub many : length new ≡ length old

-- the least node that may have a next event, where `least` was it before this turn of its
abbrev pub IsLeastAfter : ℕ → ℕ → Option Load → ℕ → Type 0
IsLeastAfter n least None after = after ≡ least + 1
IsLeastAfter n least (Some l) after = ((least + 1 ≡ n) × (after ≡ 0)) ⊎ ((least + 1 < n) × (after ≡ least))

-- the nodes are where a run of the setup led them, each place of which can step at its point
pub record IsReached (s : Setup) (nodes : List LoneNode) : Type 0 where
  pub many : length nodes ≡ s.nodes
  pub run : List (ℕ × Event)
  pub point : Configuration
  pub walk : Walks s [] (opening_of s) run point
  pub states : (i : ℕ) → i < s.nodes → point.state i ≡ (node_at nodes i).state
  pub links : (i : ℕ) → i < s.nodes → point.link (prev s.nodes i) ≡ (node_at nodes i).input
  pub events : (i : ℕ) → i < s.nodes → events_at run i ≡ (node_at nodes i).events
  pub draws : (i : ℕ) → i < s.nodes → node_draws s i ≡ drawn (node_at nodes i).events ++ (node_at nodes i).ids

-- the nodes are where such a run led them, and none of them has a next event
abbrev pub AreAtEnd : Setup → List LoneNode → Type 0
AreAtEnd s nodes = IsReached s nodes × ((i : ℕ) → i < s.nodes → HasNoNext s.nodes s.cap s.terms (node_at nodes i))

-- the logs of the nodes
abbrev pub AreLogsOfNodes : Setup → List LoneNode → List Log → Type 0
AreLogsOfNodes s nodes logs =
    (length logs ≡ length nodes)
    × ((i : ℕ) (log : Log) → slice_get logs i ≡ Some log
    → log ≡ record {
      version = version_of s.nodes s.terms;
      nodes = s.nodes;
      place = i;
      initiator = is_initiator s i;
      events = (node_at nodes i).events;
    })

-- the ends of the nodes
abbrev pub AreEndsOfNodes : Setup → List LoneNode → List NodeEnd → Type 0
AreEndsOfNodes s nodes ends =
    (length ends ≡ length nodes)
    × ((i : ℕ) (end : NodeEnd) → slice_get ends i ≡ Some end → Ends s.nodes s.cap s.terms (node_at nodes i) end)
