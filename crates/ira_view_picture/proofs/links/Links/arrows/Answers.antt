use Rattle.std.proofs.Common.{◌≡◌, arith, length}
use Rattle.ira_view_picture.proofs.DrawnArrows.{all_arrows, no_arrows}
use Rattle.ira_view_picture.proofs.links.Links.arrows.Goals as goal

pub loop-link-init : goal.loop-link-init
loop-link-init g c =
    rw c.new-arrows.ensures.items
    (no_arrows c.args.self.now.logs.now c.args.self.now.columns.now.nodes c.args.window)

pub returns : goal.returns
returns g c =
    let logs = c.args.self.now.logs.now in
    let end : c.loop-link.link ≡ length c.args.self.now.logs.now = omega (
      arith,
      c.loop-link-test.false,
      c.loop-link.auto.link-end,
      c.get-link-end.ensures.value,
      c.size.ensures.value,
    ) in
    all_arrows logs c.args.self.now.columns.now.nodes c.args.window c.loop-link.arrows.items
    (rw end at c.loop-link.invariant)
