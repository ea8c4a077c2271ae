use Rattle.ira_mend.proofs.Lattice.{greatest, join_begins, meet_begins}
use Rattle.ira_mend.proofs.laws.beginnings_are_a_lattice.Goals as goal

pub returns-clause-join : goal.returns-clause-join
returns-clause-join c = join_begins

pub returns-clause-meet : goal.returns-clause-meet
returns-clause-meet c = meet_begins

pub returns-clause-greatest : goal.returns-clause-greatest
returns-clause-greatest c = greatest
