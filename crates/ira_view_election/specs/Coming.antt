-- What may come next at a moment, but for a leader's yield.
use Rattle.std.specs.Prelude.{◌≡◌, ◌≢◌, ◌↔◌, ℕ, ◌≤◌, List, [], ◌∷◌, Option, None, Some, length, slice_get}
use Rattle.std.specs.List.{enumerate_from}
use Rattle.ira_event.specs.declared.event.Event.{Event}
use Rattle.ira_event.specs.declared.event.Event.TheVariants.{Draw, Sent, Got, Yield}
use Rattle.ira_event.specs.declared.load.Load.{Load}
use Rattle.ira_node.specs.NodeStep.{HasStep}
use Rattle.ira_order.specs.Ring.{prev}
use Rattle.ira_view_moment.specs.declared.node_progress.NodeProgress.{NodeProgress}
use Rattle.ira_view_moment.specs.Moment.{Moment}
use Rattle.ira_view_election.specs.declared.due.Due.{Due}
use Rattle.ira_view_election.specs.declared.due.Due.TheVariants.{Draw as DrawDue, Send, Receive}
use Rattle.ira_view_election.specs.declared.due.NodeDue.{NodeDue}
use Rattle.ira_view_page.specs.Parts.{AreParts}

-- what the event receives, if anything, stands first on the link to node i
abbrev pub StandsFirst : Moment → ℕ → Event → Type 0
StandsFirst m i (Got l) = (rest : List Load) × (slice_get m.links (prev (length m.nodes) i) ≡ Some (l ∷ rest))
StandsFirst m i e = Unit {0}

-- the event has a step at node i at the moment, and is no yield
pub record MayCome (m : Moment) (i : ℕ) (e : Event) : Type 0 where
  pub progress : NodeProgress
  pub at : slice_get m.nodes i ≡ Some progress
  pub step : HasStep (length m.nodes) progress.state e
  pub first : StandsFirst m i e
  pub works : e ≢ Yield

-- in a ring of n nodes the event is what is due: a draw of an ID of 1 to n, or the sending or the receipt of the load
abbrev pub IsDue : ℕ → Option Due → Event → Type 0
IsDue n (Some DrawDue) (Draw id) = (1 ≤ id) × (id ≤ n)
IsDue n (Some (Send l)) (Sent k) = k ≡ l
IsDue n (Some (Receive l)) (Got k) = k ≡ l
IsDue n due e = ⊥

-- what is due at node i, if anything is
abbrev pub due_at : ℕ → Option Due → List NodeDue
due_at i None = []
due_at i (Some due) = record { node = i; due = due } ∷ []

-- what comes next at a node with its place: just what may come there
abbrev pub IsNextAt : Moment → ℕ × NodeProgress → List NodeDue → Type 0
IsNextAt m node next =
    (due : Option Due) × ((e : Event) → IsDue (length m.nodes) due e ↔ MayCome m node.0 e) × (next ≡ due_at node.0 due)

-- what comes next at the nodes, one after the other
abbrev pub ComesNext : Moment → List NodeDue → Type 0
ComesNext m next = AreParts (IsNextAt m) (enumerate_from 0 m.nodes) next
