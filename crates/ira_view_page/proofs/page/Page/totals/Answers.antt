use Rattle.ira_view_page.proofs.Adding.{◌&◌}
use Rattle.ira_view_page.proofs.page.Page.totals.Goals as goal

pub returns : goal.returns
returns g c =
    c.number_of.ensures & c.words.ensures & c.number_of-2.ensures & c.words-2.ensures & c.sent.ensures
    & c.words-3.ensures & c.number.ensures & c.words-4.ensures & c.number-2.ensures & c.words-5.ensures
