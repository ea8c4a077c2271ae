use Rattle.ira_audit.proofs.TextRuns.{no_means_no_run, yes_means_runs}
use Rattle.ira_audit.proofs.laws.answers_tell_of_runs.Goals as goal

pub returns-clause-yes : goal.returns-clause-yes
returns-clause-yes c = yes_means_runs

pub returns-clause-no : goal.returns-clause-no
returns-clause-no c = no_means_no_run
