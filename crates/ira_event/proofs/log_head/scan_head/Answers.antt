use Rattle.std.proofs.Common.{refl}
use Rattle.ira_event.proofs.Heads.{no_head, head_out_of_range, head_found}
use Rattle.ira_event.proofs.log_head.scan_head.Goals as goal

pub returns-in_err-lines : goal.returns-in_err-lines
returns-in_err-lines c = rw c.from_residual.ensures (no_head c.args.text.now c.in_err-lines.ensures)

pub returns-in_err-head : goal.returns-in_err-head
returns-in_err-head c =
    rw c.from_residual-in_err-head.ensures
    (head_out_of_range c.args.text.now c.in_ok-lines.lines c.in_ok-lines.rest.now c.in_ok-lines.ensures
    (λ good. let some = c.in_err-head.ensures.some.1 good in cc))

pub returns : goal.returns
returns c =
    let v = c.in_ok-head.ensures.value in
    rw (v.0, v.1, v.2, v.3) (head_found c.args.text.now c.in_ok-lines.lines c.in_ok-lines.rest.now c.in_ok-lines.ensures
    (c.in_ok-head.ensures.some.0 refl))
