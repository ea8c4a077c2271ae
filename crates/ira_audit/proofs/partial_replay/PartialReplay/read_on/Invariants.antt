use Rattle.std.proofs.Common.{◌≡◌, ℕ, List, length}
use Rattle.ira_audit.specs.LogAudit.{IsBegun, IsSuffix}
use Rattle.ira_audit.proofs.partial_replay.PartialReplay.read_on.Given as goal

abbrev pub invariant-loop-event : goal.invariant-loop-event
invariant-loop-event l = record {
  begun : (text : List ℕ) → IsBegun text l.fn.self l.initial.records
      → IsBegun text (record { head = l.head; count = l.records.count; state = l.state; first_fault = l.first_fault })
      l.records;
  suffix : IsSuffix l.records.rest l.initial.records.rest;
  version : l.records.version ≡ l.head.version;
}

abbrev pub decreases-loop-event : goal.decreases-loop-event
decreases-loop-event l = length l.records.rest
