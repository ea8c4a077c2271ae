use Rattle.std.proofs.Common.{length}
use Rattle.ira_par.proofs.shares.+first_found.Given as goal

abbrev pub decreases-first_found : goal.decreases-first_found
decreases-first_found g l = length l.shares.now
