use Rattle.std.proofs.Common.{◌≡◌, ◌+◌, None, arith, rules, length}
use Rattle.std.specs.Prelude.{true}
use Rattle.ira_order.specs.Matching.{got, sent}
use Rattle.ira_order.specs.Ring.{log_of, next, numbered}
use Rattle.ira_view_picture.proofs.DrawnArrows.{arrows_more, arrows_onward, arrows_over, ends_drawn, ends_undrawn}
use Rattle.ira_view_picture.proofs.DrawnArrows.{no_further, nothing_undrawn}
use Rattle.ira_view_picture.proofs.links.Links.add_arrows.Goals as goal
use Rattle.ira_view_picture.proofs.links.Links.add_arrows.Goals.{then-meets+in-Some+in_ok-push, then-meets+in_default}
use Rattle.ira_view_picture.proofs.links.Links.add_arrows.Goals.{else-meets}

pub loop-k-preserved : goal.loop-k-preserved
loop-k-preserved g c =
    let logs = c.args.self.now.logs.now in
    let table = c.args.self.now.columns.now.nodes in
    elim c.if-meets.branch [
      | then-meets+in-Some+in_ok-push w ↦
          rw (w.arrows-is, w.in_ok-push.ensures.items)
          (arrows_more logs table c.args.window c.args.link (c.loop-k.k + 1) c.loop-k.arrows.items c.loop-k.invariant
          w.in-Some.arrow w.in-Some.ensures.link w.in-Some.ensures.arrow
          (ends_drawn logs table c.args.window c.args.link (c.loop-k.k + 1) c.sent_at.result c.received_at.result
          c.sent_at.ensures c.received_at.ensures w.in-Some.arrow w.in-Some.ensures.link w.in-Some.ensures.arrow
          (c.meets.ensures.0 w.if-meets.true)))
      | then-meets+in_default w ↦
          let none : w.arrow.result ≡ None = search rules in
          let no_sent : numbered (sent (log_of c.args.self.now.logs.now c.args.link)) (c.loop-k.k + 1) ≡ None =
          rw none at w.arrow.ensures.sending in
          let no_got : numbered (got (log_of c.args.self.now.logs.now
          (next (length c.args.self.now.logs.now) c.args.link))) (c.loop-k.k + 1) ≡ None =
          rw none at w.arrow.ensures.receipt in
          rw w.arrows-is
          (arrows_over logs table c.args.window c.args.link (c.loop-k.k + 1) c.loop-k.arrows.items c.loop-k.invariant
          (nothing_undrawn logs table c.args.window c.args.link (c.loop-k.k + 1) no_sent no_got))
      | else-meets w ↦
          rw w.arrows-is
          (arrows_over logs table c.args.window c.args.link (c.loop-k.k + 1) c.loop-k.arrows.items c.loop-k.invariant
          (ends_undrawn logs table c.args.window c.args.link (c.loop-k.k + 1) c.sent_at.result c.received_at.result
          c.sent_at.ensures c.received_at.ensures
          (λ drawn. (let yes : c.meets.result ≡ true = c.meets.ensures.1 drawn in let no = w.if-meets.false in cc))))
    ]

pub returns : goal.returns
returns g c =
    let logs = c.args.self.now.logs.now in
    let table = c.args.self.now.columns.now.nodes in
    arrows_onward logs table c.args.window c.args.link (c.loop-k.k + 1) c.loop-k.arrows.items c.loop-k.invariant
    (λ h many. no_further logs table c.args.window c.args.link h
    (omega (arith, many, c.loop-k-test.false, c.count-k-end.ensures))
    (omega (arith, many, c.loop-k-test.false, c.count-k-end.ensures)))
