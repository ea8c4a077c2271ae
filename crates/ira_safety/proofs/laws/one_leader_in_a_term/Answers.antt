use Rattle.ira_safety.proofs.Leaders.{one_leader_in_a_term}
use Rattle.ira_safety.proofs.laws.one_leader_in_a_term.Goals as goal

pub returns : goal.returns
returns c = one_leader_in_a_term
