use Rattle.ira_order.proofs.RunsOfLogs.{unmatched_no_run, circled_no_run, faulty_no_run}
use Rattle.ira_order.proofs.laws.refused_logs_have_no_run.Goals as goal

pub returns-clause-unmatched : goal.returns-clause-unmatched
returns-clause-unmatched c = unmatched_no_run

pub returns-clause-circled : goal.returns-clause-circled
returns-clause-circled c = circled_no_run

pub returns-clause-faulty : goal.returns-clause-faulty
returns-clause-faulty c = faulty_no_run
