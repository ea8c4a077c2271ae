use Rattle.ira_view_page.proofs.Adding.{◌&◌}
use Rattle.ira_view_show.proofs.moment_page.show_tables.Goals as goal

pub returns : goal.returns
returns g c =
    c.blank.ensures & c.show_rounds.ensures & c.show_nodes.ensures & c.blank-2.ensures & c.show_way.ensures
    & c.blank-3.ensures & c.print_election.ensures
