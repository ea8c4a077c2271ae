use Rattle.std.proofs.Common.{◌+◌, ◌≤◌, length}
use Rattle.ira_event.specs.Limits.{MAX_RECORDS}
use Rattle.ira_order.specs.Matching.{got}
use Rattle.ira_order.proofs.Pairing.{PairedSoFar}
use Rattle.ira_order.proofs.links.match_link.Given as goal

abbrev pub invariant-loop-receipt : goal.invariant-loop-receipt
invariant-loop-receipt g l = record {
  room : l.k + length (got l.receipts) ≤ MAX_RECORDS;
  paired : PairedSoFar l.writer.events l.reader.events l.sendings l.receipts l.k;
}

abbrev pub decreases-loop-receipt : goal.decreases-loop-receipt
decreases-loop-receipt g l = length (got l.receipts)
