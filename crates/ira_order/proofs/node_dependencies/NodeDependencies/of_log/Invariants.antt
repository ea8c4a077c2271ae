use Rattle.std.proofs.Common.{◌≡◌, ◌≤◌, drop, length}
use Rattle.ira_order.proofs.Receipts.{HasNumbers}
use Rattle.ira_order.proofs.Sendings.{HasSendings}
use Rattle.ira_order.proofs.node_dependencies.NodeDependencies.of_log.Given as goal

abbrev pub invariant-loop-event : goal.invariant-loop-event
invariant-loop-event g l = record {
  ahead : l.event-iterator ≡ drop l.number l.log.events;
  within : l.number ≤ length l.log.events;
  receipts : HasNumbers l.log.events l.number l.receipts.items;
  sendings : HasSendings l.log.events l.number l.sendings.items;
}
