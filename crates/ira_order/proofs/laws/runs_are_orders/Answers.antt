use Rattle.ira_order.proofs.RunsOfLogs.{run_is_order}
use Rattle.ira_order.proofs.laws.runs_are_orders.Goals as goal

pub returns : goal.returns
returns c = run_is_order
