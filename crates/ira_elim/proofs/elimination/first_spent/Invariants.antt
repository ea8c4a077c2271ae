use Rattle.std.proofs.Common.{ℕ, ◌<◌, get_or}
use Rattle.ira_elim.specs.Elimination.{IsFirstLeft}
use Rattle.ira_elim.proofs.elimination.first_spent.Given as goal

abbrev pub invariant-loop-place : goal.invariant-loop-place
invariant-loop-place g l = (k : ℕ) → k < l.place-index → (p : ℕ) × IsFirstLeft l.queues (get_or l.asked k 0) p
