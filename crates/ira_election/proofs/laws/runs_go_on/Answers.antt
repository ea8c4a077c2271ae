use Rattle.ira_election.proofs.Cuts.{loads_at_cuts_have_steps}
use Rattle.ira_election.proofs.Loads.{loads_have_steps}
use Rattle.ira_election.proofs.Onward.{runs_go_on}
use Rattle.ira_election.proofs.laws.runs_go_on.Goals as goal

pub returns-clause-loads : goal.returns-clause-loads
returns-clause-loads c = loads_have_steps

pub returns-clause-cuts : goal.returns-clause-cuts
returns-clause-cuts c = loads_at_cuts_have_steps

pub returns-clause-on : goal.returns-clause-on
returns-clause-on c = runs_go_on
