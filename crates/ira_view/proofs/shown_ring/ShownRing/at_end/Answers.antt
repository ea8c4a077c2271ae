use Rattle.std.proofs.Common.{◌≡◌, subst}
use Rattle.ira_view_moment.proofs.OnTheWay.{whole_is_consistent}
use Rattle.ira_view_moment.specs.Moment.{whole_cut}
use Rattle.ira_order.specs.Cut.{IsConsistentCut}
use Rattle.ira_view.proofs.shown_ring.ShownRing.at_end.Goals as goal

pub invariant_of-result : goal.invariant_of-result
invariant_of-result g c = (
  λ cut at.
      let same : whole_cut c.args.logs ≡ cut = cc in
      subst (IsConsistentCut c.args.logs) same (whole_is_consistent c.args.logs),
  tt,
)
