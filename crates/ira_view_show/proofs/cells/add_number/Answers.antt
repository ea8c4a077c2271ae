use Rattle.ira_view_show.proofs.Lines.{added_whole}
use Rattle.ira_view_show.proofs.cells.add_number.Goals as goal

pub returns : goal.returns
returns g c = added_whole c.new-cell.ensures c.number.ensures c.right.ensures
