use Rattle.ira_par.proofs.Halves.{shifted}
use Rattle.ira_par.proofs.ranges.range_count.Goals as goal

pub returns : goal.returns
returns c = (shifted c.args.depth c.requires).1
