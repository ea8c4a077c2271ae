use Rattle.ira_order.proofs.Cuts.{moment_cut}
use Rattle.ira_order.proofs.laws.moments_are_cuts.Goals as goal

pub returns : goal.returns
returns c = λ logs order cut t are matches o lt long counts.
    moment_cut logs order cut t are.ring.0 matches o lt long counts
