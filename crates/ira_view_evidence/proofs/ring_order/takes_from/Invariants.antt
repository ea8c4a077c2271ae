use Rattle.std.proofs.Common.{length}
use Rattle.ira_order.specs.Matching.{got}
use Rattle.ira_view_evidence.proofs.RingOrders.{TakenSoFar}
use Rattle.ira_view_evidence.proofs.ring_order.takes_from.Given as goal

abbrev pub invariant-loop-receipt : goal.invariant-loop-receipt
invariant-loop-receipt g l = TakenSoFar l.writer.events l.reader.events l.sendings l.receipts

abbrev pub decreases-loop-receipt : goal.decreases-loop-receipt
decreases-loop-receipt g l = length (got l.receipts)
