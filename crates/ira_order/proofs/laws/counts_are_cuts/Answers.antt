use Rattle.ira_order.proofs.CutLattice.{counts_cut, counts_least}
use Rattle.ira_order.proofs.laws.counts_are_cuts.Goals as goal

pub returns-clause-cuts : goal.returns-clause-cuts
returns-clause-cuts c = counts_cut

pub returns-clause-least : goal.returns-clause-least
returns-clause-least c = counts_least
