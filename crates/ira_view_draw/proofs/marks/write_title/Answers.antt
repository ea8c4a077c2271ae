use Rattle.ira_view_page.proofs.Adding.{◌&◌}
use Rattle.ira_view_draw.proofs.marks.write_title.Goals as goal

pub returns : goal.returns
returns g c =
    c.words.ensures & c.number.ensures & c.words-2.ensures & c.number-2.ensures & c.words-3.ensures & c.event.ensures
    & c.end.ensures & c.write_after.ensures & c.words-4.ensures
