use Rattle.ira_audit.proofs.NeverMet.{no_case}
use Rattle.ira_audit.proofs.laws.no_case_is_met.Goals as goal

pub returns : goal.returns
returns c = no_case
