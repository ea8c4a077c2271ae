use Rattle.std.proofs.Common.{◌≡◌, ℕ, ◌<◌, Some, length, slice_get}
use Rattle.ira_elim.specs.Elimination.{IsFirstLeft}
use Rattle.ira_elim.specs.CandidateClock.{CandidateClock, IsCandidateClock, IsCounted}
use Rattle.ira_elim.proofs.elimination.all_stands.Given as goal

abbrev pub invariant-loop-place : goal.invariant-loop-place
invariant-loop-place g l = record {
  count : length l.stands.items ≡ l.place;
  stands : (j : ℕ) → j < l.place → (q : ℕ) → IsFirstLeft l.queues j q → (s : CandidateClock)
      × (slice_get l.stands.items j ≡ Some s) × IsCandidateClock (g.C.HappenedBefore.logs_of l.ordered) j q s
      × IsCounted s;
}
