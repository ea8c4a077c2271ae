use Rattle.std.proofs.Common.{IfOk, subst}
use Rattle.ira_view_show.proofs.Lines.{ok_then}
use Rattle.ira_view.proofs.Moments.{page_of}
use Rattle.ira_view.specs.ShownRing.{IsPageOf, ShownRing}
use Rattle.ira_view.proofs.shown_ring.ShownRing.page.Goals as goal

pub returns : goal.returns
returns g c =
    let told = rw c.logs.ensures.value at c.show_moment.ensures in
    subst (λ (r : ShownRing). IfOk c.show_moment.result (IsPageOf r)) c.self.view_is
    (ok_then _ _ c.show_moment.result (page_of c.self.inside.logs c.self.inside.moment) told)
