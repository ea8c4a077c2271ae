use Rattle.ira_order.proofs.CutLattice.{join_cut, meet_cut}
use Rattle.ira_order.proofs.laws.cuts_are_a_lattice.Goals as goal

pub returns-clause-join : goal.returns-clause-join
returns-clause-join c = join_cut

pub returns-clause-meet : goal.returns-clause-meet
returns-clause-meet c = meet_cut
