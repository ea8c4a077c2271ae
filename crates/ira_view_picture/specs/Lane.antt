-- What is drawn of a node.
use Rattle.std.specs.Prelude.{◌≡◌, ℕ, ◌+◌, ◌-◌, ◌<◌, ◌≤◌, List, Option, Some, MatchOption, slice_get}
use Rattle.std.specs.Prelude.{◌↔◌, slice_index}
use Rattle.ira_event.specs.Log.{Log}
use Rattle.ira_node.specs.declared.node_state.NodeState.{NodeState}
use Rattle.ira_replay.specs.declared.replay_fault.ReplayFault.{ReplayFault}
use Rattle.ira_replay.specs.LocalRun.{IsFirstFault}
use Rattle.ira_order.specs.FaultyEvent.{Rises}
use Rattle.ira_view_trail.specs.StateTrail.{Reaches}
use Rattle.ira_view_picture.specs.declared.after.After.{After}
use Rattle.ira_view_picture.specs.declared.after.After.TheVariants.{NoStep, State, Unknown}
use Rattle.ira_view_picture.specs.declared.mark.Mark.{Mark}
use Rattle.ira_view_picture.specs.declared.window.Window.{Window}
use Rattle.ira_view_picture.specs.Window.{IsIn}

-- what is known of the node after n events
abbrev pub IsKnown : Log → ℕ → After → Type 0
IsKnown log n (State s) = Reaches log n s
IsKnown log n NoStep = (f : ReplayFault) × IsFirstFault log f × (f.position ≡ n)
IsKnown log n Unknown = (f : ReplayFault) × IsFirstFault log f × (f.position < n)

-- an event of the log, in its column
pub record IsMark (log : Log) (columns : List ℕ) (m : Mark) : Type 0 where
  pub first : 1 ≤ m.position
  pub event : slice_get log.events (m.position - 1) ≡ Some m.event
  pub column : m.column ≡ slice_index columns (m.position - 1)
  pub after : IsKnown log m.position m.after

-- event n + 1 is among the marks, if its column is drawn
abbrev pub HasMark : List ℕ → Window → List Mark → ℕ → Type 0
HasMark columns w marks n =
    IsIn w (slice_index columns n) → (k : ℕ) × (m : Mark) × (slice_get marks k ≡ Some m) × (m.position ≡ n + 1)

-- those of the first n events that are drawn, in their order
pub record AreMarks (log : Log) (columns : List ℕ) (w : Window) (n : ℕ) (marks : List Mark) : Type 0 where
  pub each : (k : ℕ) (m : Mark) → slice_get marks k ≡ Some m → IsMark log columns m × IsIn w m.column × (m.position ≤ n)
  pub all : (a : ℕ) → a < n → HasMark columns w marks a
  pub rise : Rises (λ m. m.position) marks

-- what is known of the node before the window: after those of its first n events that are left of it
pub record IsStart (log : Log) (columns : List ℕ) (w : Window) (n : ℕ) (start : After) : Type 0 where
  pub number : ℕ
  pub within : number ≤ n
  pub left : (a : ℕ) → a < n → (slice_index columns a < w.first) ↔ (a < number)
  pub known : IsKnown log number start

-- the last state that is known after n events, and the first event without a step among them
abbrev pub IsReplayed : Log → ℕ → NodeState → Option ReplayFault → Type 0
IsReplayed log n end first_fault =
    MatchOption first_fault (Reaches log n end)
    (λ f. IsFirstFault log f × (f.position ≤ n) × Reaches log (f.position - 1) end)
