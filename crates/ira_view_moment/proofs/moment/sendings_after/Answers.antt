use Rattle.std.proofs.Common.{◌≡◌, ◌∙◌, ◌+◌, ◌-◌, Some, ap, arith}
use Rattle.std.specs.Prelude.{slice_get}
use Rattle.ira_view_moment.proofs.OnTheWay.{kept_more, kept_over, kept_passed, no_sending}
use Rattle.ira_view_moment.proofs.moment.sendings_after.Goals.{in-Sent+then-passed-received}
use Rattle.ira_view_moment.proofs.moment.sendings_after.Goals.{in-Sent+else-passed-received+in_ok-push, in_default}
use Rattle.ira_view_moment.proofs.moment.sendings_after.Goals as goal

pub loop-k-preserved : goal.loop-k-preserved
loop-k-preserved g c =
    let es = c.args.log.now.events in
    let received = c.args.received in
    let k = c.loop-k.k in
    let back : c.loop-k.k + 1 - 1 ≡ c.loop-k.k = omega arith in
    let at : slice_get c.args.log.now.events c.loop-k.k ≡ Some c.event.result = rw back at c.event.ensures in
    elim c.match-event.branch [
      | in-Sent+then-passed-received w ↦
          rw (w.passed-is, w.loads-is)
          (kept_passed es received k c.loop-k.passed c.loop-k.loads.items w.in-Sent.load (at
          ∙ ap Some w.in-Sent.is) w.if-passed-received.true c.loop-k.invariant)
      | in-Sent+else-passed-received+in_ok-push w ↦
          rw (
            w.passed-is,
            w.loads-is,
            w.in_ok-push.ensures.items,
          )
          (kept_more es received k c.loop-k.passed c.loop-k.loads.items w.in-Sent.load (at
          ∙ ap Some w.in-Sent.is) w.if-passed-received.false c.loop-k.invariant)
      | in_default w ↦ rw (
        w.passed-is,
        w.loads-is,
      ) (kept_over es received k c.loop-k.passed c.loop-k.loads.items c.event.result at
          (no_sending c.event.result w.in_default.not-Sent) c.loop-k.invariant)
    ]
