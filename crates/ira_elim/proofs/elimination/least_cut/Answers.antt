use Rattle.std.proofs.Common.{arith, ap, length}
use Rattle.ira_elim.proofs.Greatest.{counts_more}
use Rattle.ira_elim.proofs.elimination.least_cut.Goals as goal

pub loop-place-init : goal.loop-place-init
loop-place-init g c = λ logs queues nodes places left inside are counted.
    (ap length c.in_ok-cut.ensures.items, λ i l. absurd (omega arith))

pub loop-place-preserved : goal.loop-place-preserved
loop-place-preserved g c = λ logs queues nodes places left inside are counted.
    let so_far = c.loop-place.invariant logs queues nodes places left inside are counted in
    counts_more logs queues c.loop-place.cut.items c.push.new.self.items c.loop-place.place c.greatest_count.result
    c.in_ok-push.ensures.items so_far.0 so_far.1
    (c.greatest_count.ensures logs queues (omega (arith, nodes, c.loop-place-test.true)) places left inside are counted)

pub returns : goal.returns
returns g c = λ logs queues nodes places left inside are counted.
    let all = c.loop-place.invariant logs queues nodes places left inside are counted in
    record {
      places = omega (arith, all.0, nodes, c.loop-place-test.false, c.loop-place.auto.place-end);
      counts = λ i l. all.1 i (omega (arith, l, nodes, c.loop-place-test.false));
    }
