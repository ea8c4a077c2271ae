use Rattle.std.proofs.Common.{◌≡◌, None, replicate, arith, ap, ◌∙◌}
use Rattle.ira_ring_setup.proofs.Collecting.{AreTaken-none}
use Rattle.ira_ring_setup.proofs.collector.Collector.new.Goals as goal

pub invariant_of-result : goal.invariant_of-result
invariant_of-result g c =
    let count = c.from-count.ensures in
    let all : c.loop.counter ≡ c.args.nodes = omega arith in
    let logs_room = c.in_ok-with_capacity.ensures.capacity in
    let ends_room = c.in_ok-with_capacity-2.ensures.capacity in
    let none : c.loop.taken.items ≡ replicate c.args.nodes None =
    c.loop.invariant.taken ∙ ap (λ n. replicate n None) all in (
      AreTaken-none c.args.nodes c.loop.taken.items c.get.ensures.valid none,
      c.in_ok-with_capacity.ensures.items,
      omega arith,
      c.in_ok-with_capacity-2.ensures.items,
      omega arith,
    )
