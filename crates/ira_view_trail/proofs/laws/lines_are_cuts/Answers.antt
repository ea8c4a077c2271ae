use Rattle.ira_view_trail.proofs.Lines.{line_cut}
use Rattle.ira_view_trail.proofs.laws.lines_are_cuts.Goals as goal

pub returns : goal.returns
returns c logs cut column line k are has = line_cut logs cut column line are has k
