use Rattle.ira_election.proofs.Cuts.{no_cut_stands_still}
use Rattle.ira_election.proofs.Still.{no_run_stands_still, still_without_initiators}
use Rattle.ira_election.proofs.laws.no_ring_stands_still.Goals as goal

pub returns-clause-runs : goal.returns-clause-runs
returns-clause-runs c = no_run_stands_still

pub returns-clause-cuts : goal.returns-clause-cuts
returns-clause-cuts c = no_cut_stands_still

pub returns-clause-needed : goal.returns-clause-needed
returns-clause-needed c = still_without_initiators
