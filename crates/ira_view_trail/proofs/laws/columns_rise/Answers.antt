use Rattle.ira_view_trail.proofs.Lines.{columns_less}
use Rattle.ira_view_trail.proofs.laws.columns_rise.Goals as goal

pub returns : goal.returns
returns c logs cut column line i a j b are has h =
    columns_less logs cut column line are has i a j b h
