use Rattle.ira_view_page.proofs.Adding.{◌&◌}
use Rattle.ira_view_page.proofs.text_stop.print_too_long.Goals as goal

pub returns : goal.returns
returns g c = (
  _,
  c.begin.ensures & c.show.ensures & c.words.ensures & c.grouped.ensures.1 & c.words-2.ensures & c.grouped-2.ensures.1
      & c.words-3.ensures & c.end.ensures,
)
