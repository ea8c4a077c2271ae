use Rattle.ira_view_page.proofs.Adding.{◌&◌}
use Rattle.ira_view_page.proofs.page.Page.leader.Goals as goal

pub returns : goal.returns
returns g c =
    rw c.in-Some.is
    (c.words-2.ensures & c.number.ensures & c.words-3.ensures & c.round.ensures & c.words-4.ensures & c.number-2.ensures
    & c.words-5.ensures)
