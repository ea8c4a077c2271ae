use Rattle.ira_view_page.proofs.Adding.{◌&◌}
use Rattle.ira_view_explain_question.proofs.asked_ring.AskedRing.print_elimination.Goals as goal

pub returns : goal.returns
returns g c = c.print_over.ensures & c.print_by.ensures
