use Rattle.std.proofs.Common.{◌-◌, length}
use Rattle.std.specs.List.{sum_by}
use Rattle.ira_order.specs.OrderPrefix.{IsOrderPrefix}
use Rattle.ira_order.proofs.Rounds.{event_count}
use Rattle.ira_order.proofs.order_prefix.OrderPrefix.rounds.Given as goal

abbrev pub invariant-loop-self : goal.invariant-loop-self
invariant-loop-self g l = IsOrderPrefix l.logs l.self

abbrev pub decreases-loop-self : goal.decreases-loop-self
decreases-loop-self g l = sum_by event_count l.logs - length l.self.places
