use Rattle.std.proofs.Common.{ℕ, ◌<◌, get_or}
use Rattle.ira_elim.specs.PairSet.{Has}
use Rattle.ira_elim.specs.CandidateClock.{KnowsNext}
use Rattle.ira_elim.proofs.elimination.add_eliminated_by.Given as goal

abbrev pub invariant-loop-node : goal.invariant-loop-node
invariant-loop-node g l = record {
  kept : (a b : ℕ) → Has l.fn.pairs a b → Has l.pairs a b;
  added : (k : ℕ) → k < l.node-index → KnowsNext l.stands l.other (get_or l.asked k 0)
      → Has l.pairs (get_or l.asked k 0) l.other;
}
