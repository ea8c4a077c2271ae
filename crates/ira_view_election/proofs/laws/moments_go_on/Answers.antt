use Rattle.ira_view_election.proofs.GoingOn.{leaders_are_at_the_end, moments_go_on}
use Rattle.ira_view_election.proofs.laws.moments_go_on.Goals as goal

pub returns-clause-on : goal.returns-clause-on
returns-clause-on c = moments_go_on

pub returns-clause-end : goal.returns-clause-end
returns-clause-end c = leaders_are_at_the_end
