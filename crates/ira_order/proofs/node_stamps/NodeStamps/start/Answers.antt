use Rattle.std.proofs.Common.{arith}
use Rattle.ira_event.specs.Limits.{MAX_NODES, MAX_RECORDS}
use Rattle.std.proofs.lemmas.Nat.{mul-le}
use Rattle.ira_order.proofs.node_stamps.NodeStamps.start.Goals as goal

pub overflow_mul-room : goal.overflow_mul-room
overflow_mul-room g c = omega (
  arith,
  mul-le c.len.result c.from.result MAX_RECORDS MAX_NODES (omega (arith, c.len.ensures, c.in_ok-numbers.ensures.few))
      (omega (arith, c.from.ensures, c.get.ensures.valid)),
)
