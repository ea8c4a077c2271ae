use Rattle.std.proofs.Common.{◌≤◌, ◌+◌, ◌-◌, slice_index_or, refl, sym, ◌∙◌, arith}
use Rattle.std.proofs.lemmas.Bool.Decides.{nat_tests}
use Rattle.ira_event.proofs.Numerals.{digit_range}
use Rattle.ira_event.proofs.ShortNumbers.{power-turn, six-digits, digits-turn, digits-end, number-there}
use Rattle.ira_event.proofs.short_record.short_number.Goals as goal

pub loop-i-init : goal.loop-i-init
loop-i-init c = record {
  digits = rw c.from-value.ensures refl;
  small = omega (arith, c.from-value.ensures);
  positive = omega (arith, c.from-value.ensures);
}

pub overflow_mul-value : goal.overflow_mul-value
overflow_mul-value c =
    let small = six-digits c.loop-i.value c.loop-i.i c.loop-i.invariant.small (omega arith) in
    omega (arith, small)

pub overflow_add-value : goal.overflow_add-value
overflow_add-value c =
    let small = six-digits c.loop-i.value c.loop-i.i c.loop-i.invariant.small (omega arith) in
    let range = digit_range (slice_index_or c.args.text.now (c.args.start + c.loop-i.i) 0) c.in-Some.ensures.0 in
    omega (arith, small, range.1, c.in-Some.ensures.1)

pub loop-i-preserved : goal.loop-i-preserved
loop-i-preserved c =
    let at = c.args.start + c.loop-i.i in
    let range = digit_range (slice_index_or c.args.text.now at 0) c.in-Some.ensures.0 in
    let most : slice_index_or c.args.text.now at 0 - 48 ≤ 9 = omega (arith, range.1) in
    record {
      digits = rw c.in-Some.ensures.1
          (digits-turn c.args.text.now at _ c.loop-i.value (omega arith) (omega arith) c.in-Some.ensures.0
          ∙ c.loop-i.invariant.digits);
      small = rw c.in-Some.ensures.1 (power-turn c.loop-i.value _ c.loop-i.i c.loop-i.invariant.small most);
      positive = omega arith;
    }

pub returns-in_default-to_digit-clause-number : goal.returns-in_default-to_digit-clause-number
returns-in_default-to_digit-clause-number c =
    let text = c.args.text.now in
    let at = c.args.start + c.loop-i.i in
    let small = six-digits c.loop-i.value c.loop-i.i c.loop-i.invariant.small (omega arith) in
    let end = digits-end text at c.loop-i.value (omega arith) c.in_default-to_digit.ensures in
    number-there text c.args.start at c.loop-i.value (omega arith) (omega arith) (omega arith) small
    (sym c.loop-i.invariant.digits ∙ end)

pub returns-in_default-to_digit-clause-in_range : goal.returns-in_default-to_digit-clause-in_range
returns-in_default-to_digit-clause-in_range c =
    let small = six-digits c.loop-i.value c.loop-i.i c.loop-i.invariant.small (omega arith) in
    grind (arith, nat_tests, small, c.loop-i.invariant.positive)
