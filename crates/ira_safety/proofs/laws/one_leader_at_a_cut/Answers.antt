use Rattle.ira_safety.proofs.Leaders.{one_leader_at_a_cut, others_are_passive}
use Rattle.ira_safety.proofs.laws.one_leader_at_a_cut.Goals as goal

pub returns-clause-one : goal.returns-clause-one
returns-clause-one c = one_leader_at_a_cut

pub returns-clause-others : goal.returns-clause-others
returns-clause-others c = others_are_passive
