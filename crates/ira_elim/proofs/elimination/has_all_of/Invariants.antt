use Rattle.std.proofs.Common.{◌≢◌, ◌<◌, ℕ, get_or}
use Rattle.ira_elim.specs.PairSet.{Has}
use Rattle.ira_elim.proofs.elimination.has_all_of.Given as goal

abbrev pub invariant-loop-place : goal.invariant-loop-place
invariant-loop-place g l =
    (k : ℕ) → k < l.place-index → Has l.pairs (get_or l.asked k 0) l.other → get_or l.asked k 0 ≢ l.node
    → Has l.pairs (get_or l.asked k 0) l.node
