use Rattle.ira_view_page.proofs.Adding.{◌&◌}
use Rattle.ira_view_page.proofs.page.Page.phase.Goals as goal

pub returns-in-Active : goal.returns-in-Active
returns-in-Active g c =
    rw c.in-Active.is
    (c.words-in-Active.ensures & c.round-in-Active.ensures & c.words-in-Active-2.ensures & c.number.ensures)

pub returns-in-Leader : goal.returns-in-Leader
returns-in-Leader g c =
    rw c.in-Leader.is
    (c.words-in-Leader.ensures & c.round-in-Leader.ensures & c.words-in-Leader-2.ensures & c.number-in-Leader.ensures)
