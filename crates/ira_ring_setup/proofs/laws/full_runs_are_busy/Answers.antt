use Rattle.ira_ring_setup.proofs.GoingOn.{full_runs_are_busy, no_full_run_lacks_a_step, full_runs_elect_or_stop}
use Rattle.ira_ring_setup.proofs.GoingOn.{full_run_leaders_are_alone}
use Rattle.ira_ring_setup.proofs.laws.full_runs_are_busy.Goals as goal

pub returns-clause-busy : goal.returns-clause-busy
returns-clause-busy c = full_runs_are_busy

pub returns-clause-steps : goal.returns-clause-steps
returns-clause-steps c = no_full_run_lacks_a_step

pub returns-clause-elects : goal.returns-clause-elects
returns-clause-elects c = full_runs_elect_or_stop

pub returns-clause-alone : goal.returns-clause-alone
returns-clause-alone c = full_run_leaders_are_alone
