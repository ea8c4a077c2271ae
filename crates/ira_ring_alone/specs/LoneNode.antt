-- Helpers, no definitions: what the lone runner keeps of a node, and what it does with it.
use Rattle.std.specs.Prelude.{◌≡◌, ◌≢◌, ℕ, zero, suc, ◌<◌, ◌≤◌, List, [], ◌∷◌, ◌++◌, Option, None, Some, length, drop}
use Rattle.std.specs.Prelude.{cond, is_some}
use Rattle.ira_event.specs.declared.load.Load.{Load}
use Rattle.ira_event.specs.declared.event.Event.{Event}
use Rattle.ira_event.specs.declared.event.Event.TheVariants.{Sent, Got}
use Rattle.ira_event.specs.Messages.{drawing, receipt}
use Rattle.ira_node.specs.declared.node_state.NodeState.{NodeState}
use Rattle.ira_node.specs.NodeState.{Receives}
use Rattle.ira_node.specs.NodeStep.{NodeStep, HasStep}
use Rattle.ira_ring_setup.specs.declared.node_end.NodeEnd.{NodeEnd}
use Rattle.ira_ring_setup.specs.declared.node_end.NodeEnd.TheVariants.{Leader, Stopped, DrawsSpent, LogFull, NoStep, Quiet}
use Rattle.ira_ring_setup.specs.ShownEnd.{HasToDraw}
use Rattle.ira_ring_setup.specs.Terms.{IsLastLeader}

-- a node's state, the IDs that it has left to draw, the loads on the link that leads to it, and its
-- events
pub record LoneNode : Type 0 where
  pub state : NodeState
  pub ids : List ℕ
  pub input : List Load
  pub events : List Event

-- what is taken off the list, if something is, stands first on it
abbrev pub IsHead : {A : Type 0} → List A → Option A → Type 0
IsHead {A} xs (Some x) = (rest : List A) × (xs ≡ x ∷ rest)
IsHead {A} xs None = Unit {0}

-- an ID that is drawn is the first one left, and a load that is received is the first one on the link
abbrev pub IsFirst : LoneNode → Event → Type 0
IsFirst node e = IsHead node.ids (drawing e) × IsHead node.input (receipt e)

-- the node's next event in a ring of n nodes and a run of so many terms, and the state after it
pub record IsNext (n most terms : ℕ) (node : LoneNode) (event : Event) (after : NodeState) : Type 0 where
  pub not_last : ¬ (IsLastLeader terms node.state)
  pub below_cap : length node.events < most
  pub step : NodeStep n node.state event after
  pub first : IsFirst node event

-- the node has no next event, and this is its end
abbrev pub Ends : ℕ → ℕ → ℕ → LoneNode → NodeEnd → Type 0
Ends n most terms node Leader = IsLastLeader terms node.state
Ends n most terms node Stopped = ⊥
Ends n most terms node DrawsSpent =
    (length node.events < most) × HasToDraw node.state × (node.ids ≡ [])
Ends n most terms node LogFull = ¬ (IsLastLeader terms node.state) × (most ≤ length node.events)
Ends n most terms node (NoStep l) =
    (length node.events < most) × (node.state.owed ≡ None) × Receives node.state.phase
    × ((rest : List Load) × (node.input ≡ l ∷ rest)) × ¬ (HasStep n node.state (Got l))
Ends n most terms node Quiet = (length node.events < most) × (node.state.owed ≡ None) × Receives node.state.phase
    × (node.input ≡ [])

-- the node has no next event
abbrev pub HasNoNext : ℕ → ℕ → ℕ → LoneNode → Type 0
HasNoNext n most terms node = (end : NodeEnd) × Ends n most terms node end

-- how many of the IDs left an event draws, and how many of the loads it takes
abbrev pub drawn_by : Event → ℕ
drawn_by e = cond (is_some (drawing e)) 1 0

abbrev pub taken_by : Event → ℕ
taken_by e = cond (is_some (receipt e)) 1 0

-- the node after an event
abbrev pub after_event : LoneNode → Event → NodeState → LoneNode
after_event node event after =
    record {
      state = after;
      ids = drop (drawn_by event) node.ids;
      input = drop (taken_by event) node.input;
      events = node.events ++ event ∷ [];
    }

-- the node with one load more on the link that leads to it
abbrev pub after_put : LoneNode → Load → LoneNode
after_put node l = record { state = node.state; ids = node.ids; input = node.input ++ l ∷ []; events = node.events }

-- the event is no sending
abbrev pub SendsNothing : Event → Type 0
SendsNothing e = (l : Load) → e ≢ Sent l

-- the node's next event, which sends nothing and leads to this state; or there is no next event
abbrev pub MakesOwn : ℕ → ℕ → ℕ → LoneNode → LoneNode → Option NodeState → Type 0
MakesOwn n most terms old new None = HasNoNext n most terms old × (new ≡ old)
MakesOwn n most terms old new (Some after) =
    (e : Event) × SendsNothing e × IsNext n most terms old e after × (new ≡ after_event old e after)

-- the node's next event is the sending of the load
abbrev pub MakesSending : ℕ → ℕ → ℕ → LoneNode → LoneNode → Load → Type 0
MakesSending n most terms old new l =
    (after : NodeState) × IsNext n most terms old (Sent l) after × (new ≡ after_event old (Sent l) after)

-- so many events that send nothing
abbrev pub GoesTo : ℕ → ℕ → ℕ → ℕ → LoneNode → LoneNode → Type 0
GoesTo n most terms zero old new = new ≡ old
GoesTo n most terms (suc k) old new =
    (node : LoneNode) × GoesTo n most terms k old node
    × ((after : NodeState) × MakesOwn n most terms node new (Some after))

-- events that send nothing, and then the sending of this load, or no next event
abbrev pub GoesToSending : ℕ → ℕ → ℕ → LoneNode → LoneNode → Option Load → Type 0
GoesToSending n most terms old new None = ((k : ℕ) × GoesTo n most terms k old new) × HasNoNext n most terms new
GoesToSending n most terms old new (Some l) =
    (node : LoneNode) × ((k : ℕ) × GoesTo n most terms k old node) × MakesSending n most terms node new l
