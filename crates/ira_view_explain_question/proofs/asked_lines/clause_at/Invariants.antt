use Rattle.std.proofs.Common.{◌≡◌, ◌≢◌, ℕ, ◌<◌, Some, slice_get}
use Rattle.ira_pred.specs.Case.{Conjunct}
use Rattle.ira_view_explain_question.proofs.asked_lines.clause_at.Given as goal

abbrev pub invariant-loop-n : goal.invariant-loop-n
invariant-loop-n g l = (k : ℕ) (c : Conjunct) → k < l.n → slice_get l.case k ≡ Some c → c.place ≢ l.place
