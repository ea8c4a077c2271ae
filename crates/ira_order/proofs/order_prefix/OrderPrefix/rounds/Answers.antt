use Rattle.std.proofs.Common.{arith}
use Rattle.ira_order.proofs.Rounds.{few_places, has_grown_length}
use Rattle.ira_order.proofs.order_prefix.OrderPrefix.rounds.Goals as goal

pub loop-self-smaller : goal.loop-self-smaller
loop-self-smaller g c =
    omega (
      arith,
      few_places _ _ c.in_ok-round.ensures.prefix,
      has_grown_length _ _ c.in_ok-round.ensures.further,
      c.len-before.ensures,
      c.len.ensures,
    )
