use Rattle.std.proofs.Common.{◌≡◌, ◌≤◌, drop, length}
use Rattle.ira_order.proofs.Receipts.{HasNumbers}
use Rattle.ira_order.proofs.receipt_numbers.receipt_numbers.Given as goal

abbrev pub invariant-loop-event : goal.invariant-loop-event
invariant-loop-event g l = record {
  ahead : l.event-iterator ≡ drop l.number l.log.events;
  within : l.number ≤ length l.log.events;
  numbers : HasNumbers l.log.events l.number l.numbers.items;
}
