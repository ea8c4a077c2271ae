use Rattle.std.proofs.Common.{◌≡◌, ◌<◌, ℕ, Some}
use Rattle.std.specs.Prelude.{slice_get}
use Rattle.ira_view_evidence.specs.Origin.{HappenedBefore}
use Rattle.ira_order.specs.declared.faulty_event.FaultyEvent.{FaultyEvent}
use Rattle.ira_view_evidence.proofs.origin.is_least.Given as goal

abbrev pub invariant-loop-event : goal.invariant-loop-event
invariant-loop-event g l =
    (k : ℕ) (s : FaultyEvent) → k < l.event-index → slice_get l.faulty k ≡ Some s
    → HappenedBefore (g.H.HappenedBefore.logs_of l.ordered) s.at l.at → ⊥
