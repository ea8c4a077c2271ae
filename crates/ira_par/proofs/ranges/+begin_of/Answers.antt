use Rattle.std.proofs.Common.{◌≡◌, ◌∙◌, suc, ◌-◌, sym, arith}
use Rattle.ira_par.proofs.Begins.{begin_in_left, begin_in_right}
use Rattle.ira_par.proofs.ranges.+begin_of.Goals as goal

pub returns-then-number-half : goal.returns-then-number-half
returns-then-number-half t c =
    let more : suc (c.args.depth - 1) ≡ c.args.depth = omega (arith, c.if-depth-eq0.false) in
    c.begin_of.ensures
    ∙ sym (begin_in_left c.args.depth (c.args.depth - 1) c.args.from c.args.to c.args.number more (omega (
      arith,
      c.if-number-half.true,
      c.range_count-half.ensures,
    )))

pub returns-else-number-half : goal.returns-else-number-half
returns-else-number-half t c =
    let more : suc (c.args.depth - 1) ≡ c.args.depth = omega (arith, c.if-depth-eq0.false) in
    c.begin_of-else-number-half.ensures
    ∙ sym (rw c.range_count-half.ensures (begin_in_right c.args.depth (c.args.depth - 1) c.args.from c.args.to
    c.args.number more (omega (
      arith,
      c.if-number-half.false,
      c.range_count-half.ensures,
    ))))
