use Rattle.ira_view_page.proofs.Adding.{◌&◌}
use Rattle.ira_view_show.proofs.heading.print_conjunct.Goals as goal

pub returns : goal.returns
returns g c = c.add_comma.ensures & c.number.ensures & c.words.ensures & c.clause.ensures
