use Rattle.std.proofs.Common.{arith, rules, below_more}
use Rattle.ira_view_evidence.proofs.RingOrders.{order_of_all}
use Rattle.ira_view_evidence.proofs.ring_order.is_ring_order.Goals as goal

pub loop-i-preserved : goal.loop-i-preserved
loop-i-preserved g c = below_more _ _ c.loop-i.invariant (c.if-not-stands.ensures (search rules))

pub returns : goal.returns
returns g c = λ yes. order_of_all _ _ (cc) (λ i l. c.loop-i.invariant i (omega arith))
