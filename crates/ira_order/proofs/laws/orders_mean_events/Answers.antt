use Rattle.ira_order.proofs.RunsOfLogs.{order_means}
use Rattle.ira_order.proofs.laws.orders_mean_events.Goals as goal

pub returns : goal.returns
returns c = order_means
