use Rattle.ira_view_page.proofs.Adding.{◌&◌}
use Rattle.ira_view_page.proofs.page.Page.paragraph.Goals as goal

pub returns : goal.returns
returns g c = (_, c.begin.ensures & c.fill.ensures.1 & c.end.ensures)
