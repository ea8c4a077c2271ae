use Rattle.std.proofs.Common.{◌∙◌, arith}
use Rattle.ira_event.proofs.Digits.{digit-turn}
use Rattle.ira_event.proofs.scan.scan_digits.Goals as goal

pub loop-i-preserved : goal.loop-i-preserved
loop-i-preserved c =
    let turn = digit-turn c.args.text.now c.loop-i.i c.loop-i.value c.with_digit-value.result (omega arith)
    c.in-Some.ensures.0 (omega (arith, c.in-Some.ensures.1)) in
    record {
      value = turn.0 ∙ c.loop-i.invariant.value;
      after = turn.1 ∙ c.loop-i.invariant.after;
      fits = omega arith;
    }
