use Rattle.std.proofs.Common.{◌≤◌, ◌-◌, ◌++◌, length, replicate, set}
use Rattle.ira_order.specs.OrderPrefix.{IsOrderPrefix}
use Rattle.ira_order.proofs.order_prefix.OrderPrefix.advance_node.Given as goal

abbrev pub invariant-loop-tally : goal.invariant-loop-tally
invariant-loop-tally g l = record {
  prefix : IsOrderPrefix l.logs (record {
    places = l.self-inside.places.items ++ replicate (l.tally.events - l.before) l.i;
    tallies = set l.self-inside.tallies.items l.i l.tally;
  });
  on : l.before ≤ l.tally.events;
}

abbrev pub decreases-loop-tally : goal.decreases-loop-tally
decreases-loop-tally g l = length l.log.events - l.tally.events
