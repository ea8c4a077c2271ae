use Rattle.std.proofs.Common.{◌≡◌, ◌∙◌, Some, refl, sym}
use Rattle.std.specs.Prelude.{slice_get}
use Rattle.ira_view_picture.proofs.EventNumbers.{sent_read}
use Rattle.ira_view_picture.proofs.links.Links.sending.Goals as goal

pub returns : goal.returns
returns g c =
    let node = c.requires.traffic.each c.args.link c.traffic_of.result.now c.traffic_of.ensures in
    let here : slice_get c.traffic_of.result.now.sendings c.args.k ≡ Some c.in_ok-position.position =
    sym c.sending.ensures ∙ c.in_ok-position.was in
    let nth = node.2.sent_each c.args.k c.in_ok-position.position here in (
      refl,
      sent_read c.args.self.now.logs.now c.args.link node.0 _ c.in_ok-position.position nth.0 c.in_ok-load.load node.1
          nth.1 (sym c.in_ok-load.was ∙ c.load_at.ensures),
    )
