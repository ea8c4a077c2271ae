use Rattle.ira_view_page.proofs.Adding.{◌&◌}
use Rattle.ira_view_show.proofs.event_lines.print_line_of_cut.Goals as goal

pub returns : goal.returns
returns g c =
    c.begin.ensures & c.words.ensures & c.print_positions.ensures & c.words-2.ensures & c.end.ensures
