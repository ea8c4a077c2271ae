use Rattle.std.proofs.Common.{◌≡◌, ◌+◌, take, refl, ◌∙◌, arith}
use Rattle.ira_pred.specs.QuestionTextFault.{opened, closed}
use Rattle.ira_pred.proofs.Depths.{counts_open, counts_close, counts_other, counts_none, counts_more, counted_deep}
use Rattle.ira_pred.proofs.Depths.{counted_all}
use Rattle.ira_pred.proofs.question_lines.is_too_deep.Goals as goal
use Rattle.ira_pred.proofs.question_lines.is_too_deep.Goals.{then-byte-eq40, else-byte-eq40+then-byte-eq41}
use Rattle.ira_pred.proofs.question_lines.is_too_deep.Goals.{else-byte-eq40+else-byte-eq41}

pub returns-then-opened-closed : goal.returns-then-opened-closed
returns-then-opened-closed c =
    let text = c.args.text.now in
    let i = c.loop-byte.byte-index in
    let o = c.loop-byte.opened in
    let k = c.loop-byte.closed in
    let turn : (c.if-byte-eq40.opened ≡ opened (take (i + 1) text))
    × (c.if-byte-eq40.closed ≡ closed (take (i + 1) text)) =
    elim c.if-byte-eq40.branch [
      | then-byte-eq40 w ↦ let t =
          counts_open text i o k c.loop-byte-test.true c.loop-byte.invariant w.if-byte-eq40.true in
          (w.opened-is ∙ t.0, w.closed-is ∙ t.1)
      | else-byte-eq40+then-byte-eq41 w ↦ let t =
          counts_close text i o k c.loop-byte-test.true c.loop-byte.invariant w.if-byte-eq41.true in
          (w.opened-is ∙ t.0, w.closed-is ∙ t.1)
      | else-byte-eq40+else-byte-eq41 w ↦ let t =
          counts_other text i o k c.loop-byte-test.true c.loop-byte.invariant w.if-byte-eq40.false w.if-byte-eq41.false
          in (w.opened-is ∙ t.0, w.closed-is ∙ t.1)
    ] in
    let deep = counted_deep text (i + 1) c.if-byte-eq40.opened c.if-byte-eq40.closed turn c.if-opened-closed.true in
    (λ t. deep, λ t. refl)

pub returns : goal.returns
returns c = (
  λ t. absurd cc,
  λ deep. absurd (counted_all c.args.text.now c.loop-byte.byte-index c.loop-byte.opened c.loop-byte.closed
      c.loop-byte.invariant (omega arith) deep),
)

pub loop-byte-init : goal.loop-byte-init
loop-byte-init c = counts_none c.args.text.now

pub loop-byte-preserved : goal.loop-byte-preserved
loop-byte-preserved c =
    let text = c.args.text.now in
    let i = c.loop-byte.byte-index in
    let o = c.loop-byte.opened in
    let k = c.loop-byte.closed in
    let turn : (c.if-byte-eq40.opened ≡ opened (take (i + 1) text))
    × (c.if-byte-eq40.closed ≡ closed (take (i + 1) text)) =
    elim c.if-byte-eq40.branch [
      | then-byte-eq40 w ↦ let t =
          counts_open text i o k c.loop-byte-test.true c.loop-byte.invariant w.if-byte-eq40.true in
          (w.opened-is ∙ t.0, w.closed-is ∙ t.1)
      | else-byte-eq40+then-byte-eq41 w ↦ let t =
          counts_close text i o k c.loop-byte-test.true c.loop-byte.invariant w.if-byte-eq41.true in
          (w.opened-is ∙ t.0, w.closed-is ∙ t.1)
      | else-byte-eq40+else-byte-eq41 w ↦ let t =
          counts_other text i o k c.loop-byte-test.true c.loop-byte.invariant w.if-byte-eq40.false w.if-byte-eq41.false
          in (w.opened-is ∙ t.0, w.closed-is ∙ t.1)
    ] in
    counts_more text i o k c.if-byte-eq40.opened c.if-byte-eq40.closed c.loop-byte.invariant turn
    c.if-opened-closed.false
