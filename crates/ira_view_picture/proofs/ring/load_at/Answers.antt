use Rattle.std.proofs.Common.{◌≡◌, ◌∙◌, Some, None, ap, arith, sym}
use Rattle.std.specs.Option.{option_and_then}
use Rattle.ira_order.specs.Ring.{events_of, log_of, numbered}
use Rattle.ira_view_picture.specs.Arrow.{load_in}
use Rattle.ira_view_picture.proofs.EventNumbers.{numbered_at, numbered_none, numbered_zero}
use Rattle.ira_view_picture.proofs.ring.load_at.Goals as goal
use Rattle.ira_view_picture.proofs.ring.load_at.Goals.{else-position-ge1-via-then-position-ge1+else-position-len}
use Rattle.ira_view_picture.proofs.ring.load_at.Goals.{else-position-ge1-via-else-position-ge1}

pub returns-then-position-len : goal.returns-then-position-len
returns-then-position-len g c =
    let events : log_of c.args.logs.now c.args.place ≡ c.log-log.result.now.events =
    ap events_of c.log-log.ensures.value in
    let at : numbered (log_of c.args.logs.now c.args.place) c.args.position ≡ Some c.event.result =
    rw events (numbered_at c.log-log.result.now.events c.args.position c.event.result c.if-position-ge1.true
    c.event.ensures) in
    c.load_of.ensures ∙ sym (ap (option_and_then load_in) at)

pub returns-else-position-ge1 : goal.returns-else-position-ge1
returns-else-position-ge1 g c =
    let events : log_of c.args.logs.now c.args.place ≡ c.log-log.result.now.events =
    ap events_of c.log-log.ensures.value in
    let none : numbered (log_of c.args.logs.now c.args.place) c.args.position ≡ None =
    rw events (elim c.else-position-ge1.branch [
      | else-position-ge1-via-then-position-ge1+else-position-len w ↦
          numbered_none c.log-log.result.now.events c.args.position
          (omega (arith, w.if-position-len.false, w.len.ensures.value))
      | else-position-ge1-via-else-position-ge1 w ↦
          numbered_zero c.log-log.result.now.events c.args.position (omega (arith, w.if-position-ge1.false))
    ]) in
    sym (ap (option_and_then load_in) none)
