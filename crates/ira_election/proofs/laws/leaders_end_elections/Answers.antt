use Rattle.ira_election.proofs.Cuts.{elections_end_at_cuts}
use Rattle.ira_election.proofs.Ending.{leaders_end_elections}
use Rattle.ira_election.proofs.Examples.{leads_before_the_end}
use Rattle.ira_election.proofs.laws.leaders_end_elections.Goals as goal

pub returns-clause-runs : goal.returns-clause-runs
returns-clause-runs c = leaders_end_elections

pub returns-clause-cuts : goal.returns-clause-cuts
returns-clause-cuts c = elections_end_at_cuts

pub returns-clause-needed : goal.returns-clause-needed
returns-clause-needed c = leads_before_the_end
