use Rattle.std.proofs.Common.{◌≡◌, ◌*◌, length}
use Rattle.ira_order.proofs.Receipts.{first_receipt}
use Rattle.ira_order.proofs.stamps.Stamps.stored.Given as goal

abbrev pub invariant-loop-place : goal.invariant-loop-place
invariant-loop-place g l = l.counters ≡ first_receipt l.logs l.place * length l.logs
