use Rattle.std.proofs.Common.{sym, ◌∙◌}
use Rattle.ira_view_show.proofs.Leading.{leads_here, leads_later}
use Rattle.ira_view_show.proofs.summary.first_leader.Goals as goal

pub returns-in-Some : goal.returns-in-Some
returns-in-Some g c =
    sym c.in-Some.is
    ∙ leads_here c.args.moment.now.nodes c.loop-place.place c.node.result c.leading-found.result c.in-Some.leads
    c.node.ensures c.leading-found.ensures c.in-Some.is c.loop-place.invariant

pub loop-place-preserved : goal.loop-place-preserved
loop-place-preserved g c =
    leads_later c.args.moment.now.nodes c.loop-place.place c.node.result c.leading-found.result c.node.ensures
    c.leading-found.ensures c.in_default.is c.loop-place.invariant
