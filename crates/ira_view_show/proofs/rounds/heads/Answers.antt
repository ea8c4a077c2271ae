use Rattle.ira_view_page.proofs.Adding.{◌&◌}
use Rattle.ira_view_show.proofs.Lines.{began}
use Rattle.ira_view_show.proofs.rounds.heads.Goals as goal

pub returns : goal.returns
returns g c =
    began c.new-row.ensures
    (c.add_right_if.ensures & c.add_right.ensures & c.add_right-2.ensures & c.add_right-3.ensures & c.add_left.ensures)
