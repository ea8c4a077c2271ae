use Rattle.std.proofs.Common.{◌≡◌, ℕ, ◌<◌, ◌⊎◌, Some}
use Rattle.std.specs.Prelude.{slice_get}
use Rattle.ira_event.specs.declared.load.Load.{Load}
use Rattle.ira_view_evidence.specs.LoadDifference.{DiffersBy}
use Rattle.ira_view_evidence.proofs.load_difference.LoadDifference.is_between_all.Given as goal

abbrev pub invariant-loop-i : goal.invariant-loop-i
invariant-loop-i l = (i : ℕ) (sending receipt : Load) → i < l.i → slice_get l.sent i ≡ Some sending
    → slice_get l.received i ≡ Some receipt → (receipt ≡ sending) ⊎ DiffersBy l.self sending receipt
