use Rattle.ira_view_page.proofs.Adding.{◌&◌}
use Rattle.ira_view_page.proofs.page.Page.number_to.Goals as goal

pub returns : goal.returns
returns g c = (_, c.pad_to.ensures.1 & c.number.ensures)
