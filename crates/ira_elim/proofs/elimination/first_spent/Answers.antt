use Rattle.std.proofs.Common.{ℕ, get_or, below_more, arith}
use Rattle.ira_elim.specs.Elimination.{IsFirstLeft}
use Rattle.ira_elim.proofs.Places.{at_place, each_place, no_front, some_front}
use Rattle.ira_elim.proofs.elimination.first_spent.Goals as goal

pub returns-then-is_none : goal.returns-then-is_none
returns-then-is_none g c =
    let asked = c.args.asked.now in let i = get_or asked c.loop-place.place-index 0 in
    no_front c.args.queues.now i c.front.result c.is_none.result c.front.ensures c.is_none.ensures c.if-is_none.true
    ((c.requires i).0 (at_place asked c.loop-place.place-index c.loop-place-test.true))

pub loop-place-preserved : goal.loop-place-preserved
loop-place-preserved g c =
    let i = get_or c.args.asked.now c.loop-place.place-index 0 in
    below_more _ _ c.loop-place.invariant
    (some_front c.args.queues.now i c.front.result c.is_none.result c.front.ensures c.is_none.ensures
    c.if-is_none.false)

pub returns : goal.returns
returns g c =
    each_place c.args.queues.now c.args.asked.now (λ i. (p : ℕ)
    × IsFirstLeft c.args.queues.now i p) c.requires (λ k l. c.loop-place.invariant k (omega arith))
