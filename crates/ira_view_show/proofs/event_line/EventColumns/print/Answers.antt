use Rattle.ira_view_page.proofs.Adding.{◌&◌}
use Rattle.ira_view_show.proofs.event_line.EventColumns.print.Goals as goal

pub returns : goal.returns
returns g c = (
  _,
  _,
  c.begin.ensures & c.print_numbers.ensures & c.event.ensures & c.show_sender.ensures & c.show_change.ensures
      & c.end.ensures,
)
