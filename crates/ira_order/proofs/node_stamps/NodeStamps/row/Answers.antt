use Rattle.std.proofs.Common.{◌≡◌, ◌∙◌, ap, length, arith}
use Rattle.ira_event.specs.Limits.{MAX_NODES}
use Rattle.ira_order.specs.Stamps.{NodeStamps}
use Rattle.ira_order.proofs.Rows.{row_part, row_zeros}
use Rattle.ira_order.proofs.node_stamps.NodeStamps.row.Goals as goal

pub returns-then-receipt-eq0 : goal.returns-then-receipt-eq0
returns-then-receipt-eq0 g c =
    row_zeros c.args.nodes MAX_NODES c.args.receipt c.args.self.now.counters c.if-receipt-eq0.true c.requires.nodes

pub overflow_mul-end : goal.overflow_mul-end
overflow_mul-end g c =
    let kept : c.as_slice-counters.result.now ≡ c.args.self.now.counters =
    c.as_slice-counters.ensures.value ∙ ap (λ (s : NodeStamps). s.counters) c.self.view_is in
    omega (arith, c.requires.receipt, ap length kept, c.as_slice-counters.type_inv.0)

pub returns : goal.returns
returns g c =
    let kept : c.as_slice-counters.result.now ≡ c.args.self.now.counters =
    c.as_slice-counters.ensures.value ∙ ap (λ (s : NodeStamps). s.counters) c.self.view_is in
    rw kept (row_part c.args.nodes c.args.receipt c.args.self.now.counters (omega (arith, c.if-receipt-eq0.false))
    c.requires.receipt)
