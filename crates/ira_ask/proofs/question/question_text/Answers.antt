use Rattle.std.proofs.Common.{◌+◌, refl, ap, arith, inr, length}
use Rattle.ira_ask.proofs.Lines.{next_case, none_left, too_long_so_far, whole_question}
use Rattle.ira_ask.proofs.question.question_text.Goals as goal

pub returns-then-len-gt-MAX_TEXT : goal.returns-then-len-gt-MAX_TEXT
returns-then-len-gt-MAX_TEXT g c s h =
    let i = c.loop-picked.picked-index in
    let new = c.push_case.new.text.items in
    let so_far = next_case c.args.nodes s c.args.choices.now i _ _ c.loop-picked.text.items new (omega
    (arith, c.loop-picked-test.true)) refl
    (c.in_ok-push_case.ensures s h) (c.loop-picked.invariant s h) in
    inr (
      refl,
      too_long_so_far c.args.nodes s c.args.choices.now (i + 1) new so_far
          (omega (arith, c.if-len-gt-MAX_TEXT.true, c.len.ensures)),
    )

pub returns : goal.returns
returns g c s h =
    let i = c.loop-picked.picked-index in
    let whole = whole_question c.args.nodes s c.args.choices.now i c.loop-picked.text.items
    c.extend_from_slice.new.self.items
    (none_left c.args.choices.now i (omega (arith, c.loop-picked-test.false))) c.in_ok-extend_from_slice.ensures.items
    (c.loop-picked.invariant s h) in
    (whole, omega (arith, ap length whole, c.if-len-gt-MAX_TEXT-2.false, c.len-2.ensures))
