use Rattle.ira_election.proofs.FirstTerm.{first_leaders_are_elected}
use Rattle.ira_election.proofs.Tables.{leaders_are_elected, tables_elect_one, elected_is_somebody}
use Rattle.ira_election.proofs.laws.tables_elect_leaders.Goals as goal

pub returns-clause-leaders : goal.returns-clause-leaders
returns-clause-leaders c = leaders_are_elected

pub returns-clause-one : goal.returns-clause-one
returns-clause-one c = tables_elect_one

pub returns-clause-somebody : goal.returns-clause-somebody
returns-clause-somebody c = elected_is_somebody

pub returns-clause-first : goal.returns-clause-first
returns-clause-first c = first_leaders_are_elected
