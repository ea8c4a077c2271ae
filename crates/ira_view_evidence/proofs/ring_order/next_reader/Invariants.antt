use Rattle.std.proofs.Common.{◌<◌, length}
use Rattle.ira_view_evidence.proofs.ring_order.next_reader.Given as goal

abbrev pub invariant-loop : goal.invariant-loop
invariant-loop g l = l.place < length l.logs
