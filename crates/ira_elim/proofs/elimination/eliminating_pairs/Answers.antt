use Rattle.std.proofs.Common.{ℕ, Contains, below_more, get_or, arith}
use Rattle.ira_elim.specs.PairSet.{Has}
use Rattle.ira_elim.specs.CandidateClock.{KnowsNext}
use Rattle.ira_elim.proofs.Standing.{each_asked}
use Rattle.ira_elim.proofs.elimination.eliminating_pairs.Goals as goal

pub loop-other-preserved : goal.loop-other-preserved
loop-other-preserved g c =
    let stands = c.args.stands.now in let asked = c.args.asked.now in
    below_more (λ (k : ℕ). (i : ℕ) → Contains asked i → KnowsNext stands (get_or asked k 0) i
    → Has c.add_eliminated_by.new.pairs i (get_or asked k 0)) c.loop-other.other-index
    (λ k l i member knows. c.add_eliminated_by.ensures.kept i (get_or asked k 0)
    (c.loop-other.invariant k l i member knows)) c.add_eliminated_by.ensures.added

pub returns : goal.returns
returns g c = λ i j member by knows.
    each_asked c.args.asked.now (λ (j : ℕ). (i : ℕ) → Contains c.args.asked.now i → KnowsNext c.args.stands.now j i
    → Has c.loop-other.pairs i j)
    (λ k l. c.loop-other.invariant k (omega arith)) j by i member knows
