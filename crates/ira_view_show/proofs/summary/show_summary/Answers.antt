use Rattle.std.proofs.Common.{◌∙◌, ap}
use Rattle.ira_view_page.proofs.Adding.{◌&◌, added_as}
use Rattle.ira_view_page.specs.Summary.{summary_text}
use Rattle.ira_view_show.specs.Summary.{leader_from}
use Rattle.ira_view_show.proofs.summary.show_summary.Goals as goal

pub returns : goal.returns
returns g c =
    added_as
    (ap (λ l. summary_text l c.totals_of.result) c.first_leader.ensures
    ∙ ap (summary_text (leader_from 0 c.args.moment.now.nodes)) c.totals_of.ensures)
    c.summary.ensures
    & c.end.ensures
