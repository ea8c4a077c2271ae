use Rattle.ira_replay.proofs.Reached.{one_list}
use Rattle.ira_replay.proofs.laws.one_list_of_states.Goals as goal

pub returns : goal.returns
returns c = one_list
