use Rattle.ira_election.proofs.Rounds.{few_elect_nobody}
use Rattle.ira_election.proofs.Ways.{ways_to_draw, ways_to_elect, at_least_half_elect, half_is_sharp}
use Rattle.ira_election.proofs.laws.half_of_the_draws_elect.Goals as goal

pub returns-clause-ways : goal.returns-clause-ways
returns-clause-ways c = ways_to_draw

pub returns-clause-elect : goal.returns-clause-elect
returns-clause-elect c = ways_to_elect

pub returns-clause-half : goal.returns-clause-half
returns-clause-half c = at_least_half_elect

pub returns-clause-rounds : goal.returns-clause-rounds
returns-clause-rounds c = few_elect_nobody

pub returns-clause-sharp : goal.returns-clause-sharp
returns-clause-sharp c = half_is_sharp
