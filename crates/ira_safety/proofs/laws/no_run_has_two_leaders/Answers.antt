use Rattle.ira_safety.proofs.Runs.{leaders_of_runs_are_alone, no_run_has_two_leaders}
use Rattle.ira_safety.proofs.laws.no_run_has_two_leaders.Goals as goal

pub returns-clause-one : goal.returns-clause-one
returns-clause-one c = no_run_has_two_leaders

pub returns-clause-others : goal.returns-clause-others
returns-clause-others c = leaders_of_runs_are_alone
