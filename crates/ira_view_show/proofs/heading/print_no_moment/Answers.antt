use Rattle.ira_view_page.proofs.Adding.{◌&◌}
use Rattle.ira_view_show.proofs.heading.print_no_moment.Goals as goal

pub returns-in-Some : goal.returns-in-Some
returns-in-Some g c = rw c.in-Some.is (c.words-in-Some.ensures & c.number.ensures & c.words-in-Some-2.ensures)
