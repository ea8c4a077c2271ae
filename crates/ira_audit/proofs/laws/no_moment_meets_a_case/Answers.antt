use Rattle.ira_audit.proofs.NeverMet.{no_moment}
use Rattle.ira_audit.proofs.laws.no_moment_meets_a_case.Goals as goal

pub returns : goal.returns
returns c = no_moment
