use Rattle.std.proofs.Common.{take}
use Rattle.ira_order.specs.Order.{occurrences}
use Rattle.ira_order.specs.OrderPrefix.{IsOrderPrefix}
use Rattle.ira_order.specs.Stamps.{IsTable, CountsSent, HaveStamps}
use Rattle.ira_order.proofs.stamps.Stamps.fill.Given as goal

abbrev pub invariant-loop-place : goal.invariant-loop-place
invariant-loop-place g l = record {
  table : IsTable l.logs l.self.nodes.items;
  prefix : IsOrderPrefix l.logs (record { places = take l.place-index l.schedule; tallies = l.tallies.items });
  have : HaveStamps l.logs l.self.nodes.items (occurrences (take l.place-index l.schedule));
  stamped : CountsSent l.logs l.self.nodes.items (occurrences (take l.place-index l.schedule));
}
