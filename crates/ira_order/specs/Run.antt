-- Runs of a ring of nodes that follow the algorithm of Itai and Rodeh (Symmetry breaking in
-- distributed networks, Information and Computation 88, 1990), with resets that begin a next term.
use Rattle.std.specs.Prelude.{◌≡◌, ◌≢◌, ℕ, ◌<◌, ◌==◌, List, [], ◌∷◌, ◌++◌, Bool, false, Option, Some, None, length}
use Rattle.std.specs.Prelude.{slice_get, cond, map}
use Rattle.std.specs.List.{filter_map}
use Rattle.ira_event.specs.declared.load.Load.{Load}
use Rattle.ira_event.specs.declared.event.Event.{Event}
use Rattle.ira_event.specs.declared.event.Event.TheVariants.{Draw, Sent, Got, Yield}
use Rattle.ira_event.specs.Log.{Log}
use Rattle.ira_event.specs.Logs.{EachLog}
use Rattle.ira_node.specs.declared.node_state.NodeState.{NodeState}
use Rattle.ira_node.specs.NodeState.{first_state}
use Rattle.ira_node.specs.NodeStep.{NodeStep}
use Rattle.ira_replay.specs.LocalRun.{IsLocalRun}
use Rattle.ira_order.specs.Ring.{prev, log_of}

-- what an event of node i does to the loads on the links of a ring of n nodes
abbrev pub LinkStep : ℕ → ℕ → Event → (ℕ → List Load) → (ℕ → List Load) → Type 0
-- a draw changes no link
LinkStep n i (Draw id) old new = (j : ℕ) → j < n → new j ≡ old j
-- nor does a yield
LinkStep n i Yield old new = (j : ℕ) → j < n → new j ≡ old j
-- what is sent is put last on the node's own link
LinkStep n i (Sent m) old new = (new i ≡ old i ++ m ∷ []) × ((j : ℕ) → j < n → j ≢ i → new j ≡ old j)
-- what is received stood first on the link that leads to the node, and is taken away
LinkStep n i (Got m) old new = (old (prev n i) ≡ m ∷ new (prev n i)) × ((j : ℕ) → j < n → j ≢ prev n i → new j ≡ old j)

-- the state of each node, and the loads on each link; only places of the ring count
pub record Configuration : Type 0 where
  pub state : ℕ → NodeState
  pub link : ℕ → List Load

-- in a ring of n nodes the event of node i leads from one configuration to another
pub record RingStep (n i : ℕ) (e : Event) (old new : Configuration) : Type 0 where
  pub place : i < n
  pub node : NodeStep n (old.state i) e (new.state i)
  pub others : (j : ℕ) → j < n → j ≢ i → new.state j ≡ old.state j
  pub links : LinkStep n i e old.link new.link

-- the events, each with the place of its node, chain ring steps from the configuration
abbrev pub Chains : ℕ → Configuration → List (ℕ × Event) → Type 0
Chains n c [] = Unit {0}
Chains n c (x ∷ xs) = (d : Configuration) × RingStep n x.0 x.1 c d × Chains n d xs

-- whether the log is an initiator's
abbrev pub is_initiator : Option Log → Bool
is_initiator (Some log) = log.initiator
is_initiator None = false

-- each node is in the first state of its kind, and the links are empty
abbrev pub opening : List Log → Configuration
opening logs = record { state = λ i. first_state (is_initiator (slice_get logs i)); link = λ i. [] }

-- a run of the ring whose nodes start as the logs say
abbrev pub IsRingRun : List Log → List (ℕ × Event) → Type 0
IsRingRun logs run = Chains (length logs) (opening logs) run

-- the event where it is one of node i
abbrev pub event_of : ℕ → ℕ × Event → Option Event
event_of i x = cond (x.0 == i) (Some x.1) None

-- the events of each node, in their order, are its log; whether or not they are a run
abbrev pub IsRunOfLogs : List Log → List (ℕ × Event) → Type 0
IsRunOfLogs logs run = (i : ℕ) → i < length logs → filter_map (event_of i) run ≡ log_of logs i

-- the places of a run
abbrev pub places_of : List (ℕ × Event) → List ℕ
places_of run = map (λ x. x.0) run

-- all events of each log have steps
abbrev pub AreLocalRuns : List Log → Type 0
AreLocalRuns logs = EachLog logs (λ i log. IsLocalRun log)
