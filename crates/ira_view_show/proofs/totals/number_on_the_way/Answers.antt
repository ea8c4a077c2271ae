use Rattle.std.proofs.Common.{◌∙◌, length}
use Rattle.ira_view_show.proofs.Counting.{capped_at}
use Rattle.ira_view_show.proofs.totals.number_on_the_way.Goals as goal

pub loop-link-preserved : goal.loop-link-preserved
loop-link-preserved g c =
    c.saturating_add-number.ensures
    ∙ capped_at length c.args.moment.now.links c.loop-link.link c.on_link.result.now c.loop-link.number
    c.on_link.ensures c.loop-link.invariant
