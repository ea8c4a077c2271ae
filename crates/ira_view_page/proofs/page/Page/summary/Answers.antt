use Rattle.ira_view_page.proofs.Adding.{◌&◌}
use Rattle.ira_view_page.proofs.page.Page.summary.Goals as goal

pub returns : goal.returns
returns g c = c.leader.ensures & c.words.ensures & c.totals.ensures
