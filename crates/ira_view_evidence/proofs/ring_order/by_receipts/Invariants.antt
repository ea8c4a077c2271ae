use Rattle.std.proofs.Common.{◌<◌, length}
use Rattle.ira_view_evidence.proofs.ring_order.by_receipts.Given as goal

abbrev pub invariant-loop : goal.invariant-loop
invariant-loop g l = l.writer < length l.logs
