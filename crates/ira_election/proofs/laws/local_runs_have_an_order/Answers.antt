use Rattle.ira_election.proofs.AnOrder.{local_runs_have_an_order, circles_have_a_fault}
use Rattle.ira_election.proofs.Examples.{matching_is_not_enough}
use Rattle.ira_election.proofs.laws.local_runs_have_an_order.Goals as goal

pub returns-clause-order : goal.returns-clause-order
returns-clause-order c = local_runs_have_an_order

pub returns-clause-circles : goal.returns-clause-circles
returns-clause-circles c = circles_have_a_fault

pub returns-clause-needed : goal.returns-clause-needed
returns-clause-needed c = matching_is_not_enough
