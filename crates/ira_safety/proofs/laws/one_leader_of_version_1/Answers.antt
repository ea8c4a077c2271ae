use Rattle.ira_safety.proofs.Leaders.{one_leader_of_version_1}
use Rattle.ira_safety.proofs.laws.one_leader_of_version_1.Goals as goal

pub returns : goal.returns
returns c = one_leader_of_version_1
