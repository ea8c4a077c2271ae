use Rattle.ira_order.proofs.Rounds.{has_grown_trans, stuck_more}
use Rattle.ira_order.proofs.order_prefix.OrderPrefix.round.Goals as goal

pub loop-i-preserved : goal.loop-i-preserved
loop-i-preserved g c = record {
  prefix = c.in_ok-advance_node.ensures.prefix;
  further = has_grown_trans _ _ _ c.loop-i.invariant.further c.in_ok-advance_node.ensures.further;
  stuck = stuck_more _ _ _ _ c.loop-i.i c.loop-i.invariant.further c.in_ok-advance_node.ensures.further
      c.loop-i.invariant.stuck c.in_ok-advance_node.ensures.stuck;
}
