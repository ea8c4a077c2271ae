-- Cuts that meet a case (Garg and Waldecker 1994).
use Rattle.std.specs.Prelude.{◌≡◌, ℕ, List, Some, All, slice_get, slice_index}
use Rattle.ira_event.specs.Log.{Log}
use Rattle.ira_pred.specs.Case.{Conjunct}
use Rattle.ira_cand.specs.HoldsAt.{HoldsAt}

-- a cut of the logs meets a case: for each conjunct there is a log of its place, and its formula holds of the
-- state at the position that the cut has there. A log with an event without a step has no states after that
-- event; no formula holds at a position after it
abbrev pub Meets : List Log → List Conjunct → List ℕ → Type 0
Meets logs case cut =
    All (λ c. (log : Log) × (slice_get logs c.place ≡ Some log) × HoldsAt log c.formula (slice_index cut c.place)) case
