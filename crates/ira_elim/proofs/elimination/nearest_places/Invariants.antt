use Rattle.std.proofs.Common.{◌≡◌, ◌<◌, ℕ, get_or, length}
use Rattle.ira_elim.specs.CandidateClock.{IsNearest}
use Rattle.ira_elim.proofs.elimination.nearest_places.Given as goal

abbrev pub invariant-loop-place : goal.invariant-loop-place
invariant-loop-place g l = record {
  count : length l.nearest.items ≡ l.place;
  each : (j : ℕ) → j < l.place → IsNearest l.nodes l.asked j (get_or l.nearest.items j 0);
}
