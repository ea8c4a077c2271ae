-- What a clause can see of a log's states, told in short. Helpers, no definitions: the public calls of a
-- profile say what they give by Candidates.
use Rattle.std.specs.Prelude.{◌≡◌, ℕ, ◌+◌, ◌≤◌, Bool, true, false, cond, List, [], ◌∷◌, ◌++◌, All, Some, None, length}
use Rattle.std.specs.Prelude.{drop, map, replicate, slice_get}
use Rattle.std.specs.List.{flat_map}
use Rattle.ira_event.specs.declared.event.Event.{Event}
use Rattle.ira_event.specs.declared.load.Load.{Load}
use Rattle.ira_event.specs.declared.load.Load.TheVariants.{Msg as Message}
use Rattle.ira_event.specs.Limits.{MAX_RECORDS}
use Rattle.ira_event.specs.Log.{Log}
use Rattle.ira_node.specs.declared.node_state.NodeState.{NodeState}
use Rattle.ira_node.specs.declared.phase.Phase.{Phase}
use Rattle.ira_node.specs.declared.phase.Phase.TheVariants.{Choosing, Active, Passive, Leader, Yielding}
use Rattle.ira_node.specs.NodeState.{first_state}
use Rattle.ira_pred.specs.ClauseAnswer.{holds_test}
use Rattle.ira_pred.specs.Formula.{Formula}
use Rattle.ira_replay.specs.StatesLeft.{states_left}
use Rattle.ira_cand.specs.Holding.{positions_passing}
use Rattle.ira_cand.specs.declared.phase_span.PhaseSpan.{PhaseSpan}
use Rattle.ira_cand.specs.declared.stage.Stage.{Stage}

-- the term and the phase of a state
abbrev pub stage : NodeState → Stage
stage s = record { term = s.term; phase = s.phase }

-- in a ring of n nodes the events lead on from the one state to the other, and these are left; the states on the way,
-- the one at its begin among them, have these stages
pub record WalkedTo (n : ℕ) (s : NodeState) (events : List Event) (stages : List Stage) (t : NodeState)
    (left : List Event) : Type 0 where
  pub between : ℕ → List (ℕ × NodeState)
  pub states : (p : ℕ) → states_left n (Some (p, s)) events ≡ between p
      ++ states_left n (Some (p + length stages, t)) left
  pub stages_are : (p : ℕ) → map (λ x. stage x.1) (between p) ≡ stages
  pub few : length stages + length left ≤ length events

-- the stages of the states of spans that follow one another
abbrev pub stages_in : List PhaseSpan → List Stage
stages_in spans = flat_map (λ r. replicate r.count r.stage) spans

-- the phase in the first round, where it has a round
abbrev pub phase_in_first_round : Phase → Phase
phase_in_first_round (Choosing r) = Choosing 1
phase_in_first_round (Active r i) = Active 1 i
phase_in_first_round Passive = Passive
phase_in_first_round (Leader r i) = Leader 1 i
phase_in_first_round Yielding = Yielding

-- the stage in the first round of the first term
abbrev pub in_first_round : Stage → Stage
in_first_round s = record { term = 1; phase = phase_in_first_round s.phase }

-- the span names the place at which its stage in the first round of the first term stands among the kinds
abbrev pub HasKind : List Stage → PhaseSpan → Type 0
HasKind kinds r = slice_get kinds r.kind ≡ Some (in_first_round r.stage)

-- the spans have the stages of the log's states, in their order, up to the last one, which is this, and each its kind
pub record IsProfile (log : Log) (spans : List PhaseSpan) (kinds : List Stage) (last : NodeState) : Type 0 where
  pub left : List Event
  pub walked : WalkedTo log.nodes (first_state log.initiator) log.events (stages_in spans) last left
  pub ends : (p : ℕ) → states_left log.nodes (Some (p, last)) left ≡ (p, last) ∷ []
  pub kinds_are : All (HasKind kinds) spans
  pub few : length log.events ≤ MAX_RECORDS

-- some load, which stands for any
abbrev pub some_load : Load
some_load = Message (record { round = 1; id = 1; hop = 1; dirty = false })

-- a state with this mark
abbrev pub sample : Stage → Bool → NodeState
sample stage owes = record { phase = stage.phase; owed = cond owes (Some some_load) None; term = stage.term }

-- what a formula's test gives at a stage: where nothing is owed, and where something is
abbrev pub answers_in : Formula → Stage → Bool × Bool
answers_in f stage = (holds_test f (sample stage false), holds_test f (sample stage true))

-- of the states before the last one, those from position p on have these stages, and the positions found before it are
-- those that pass
pub record TableAt (log : Log) (last : NodeState) (f : Formula) (stages : List Stage) (p : ℕ) (found : List ℕ)
    : Type 0 where
  pub before : List (ℕ × NodeState)
  pub all : states_left log.nodes (Some (0, first_state log.initiator)) log.events
      ≡ before ++ (length before, last) ∷ []
  pub few : length before ≤ length log.events
  pub stages_are : map (λ x. stage x.1) (drop p before) ≡ stages
  pub passing : positions_passing (holds_test f) before ≡ found ++ positions_passing (holds_test f) (drop p before)
  pub low : p ≤ length before
