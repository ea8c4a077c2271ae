use Rattle.ira_replay.proofs.Reached.{states_are_reached}
use Rattle.ira_replay.proofs.laws.states_are_reached.Goals as goal

pub returns : goal.returns
returns c = states_are_reached
