use Rattle.ira_view_page.proofs.Adding.{◌&◌}
use Rattle.ira_view_show.proofs.event_line.EventColumns.print_numbers.Goals as goal

pub returns : goal.returns
returns g c =
    c.show_number.ensures & c.words.ensures & c.show_number-2.ensures & c.words-2.ensures & c.show_number-3.ensures
    & c.words-3.ensures
