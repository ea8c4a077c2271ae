use Rattle.ira_order.proofs.RunsOfLogs.{every_order_is_run}
use Rattle.ira_order.proofs.laws.orders_are_runs.Goals as goal

pub returns : goal.returns
returns c = every_order_is_run
