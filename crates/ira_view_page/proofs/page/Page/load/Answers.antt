use Rattle.ira_view_page.proofs.Adding.{◌&◌}
use Rattle.ira_view_page.proofs.page.Page.load.Goals as goal

pub returns-in-Msg : goal.returns-in-Msg
returns-in-Msg g c =
    rw c.in-Msg.is
    (c.number.ensures & c.words.ensures & c.number-in-Msg.ensures & c.words-in-Msg.ensures & c.number-in-Msg-2.ensures
    & c.words-in-Msg-2.ensures & c.bit.ensures)
