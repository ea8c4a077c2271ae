use Rattle.std.proofs.Common.{ℕ, ◌<◌, Contains, get_or}
use Rattle.ira_elim.specs.PairSet.{Has}
use Rattle.ira_elim.specs.CandidateClock.{KnowsNext}
use Rattle.ira_elim.proofs.elimination.eliminating_pairs.Given as goal

abbrev pub invariant-loop-other : goal.invariant-loop-other
invariant-loop-other g l =
    (k : ℕ) → k < l.other-index → (i : ℕ) → Contains l.asked i → KnowsNext l.stands (get_or l.asked k 0) i
    → Has l.pairs i (get_or l.asked k 0)
