use Rattle.ira_cand.proofs.Passing.{one_list_of_candidates as one_list}
use Rattle.ira_cand.proofs.laws.one_list_of_candidates.Goals as goal

pub returns : goal.returns
returns c = one_list
