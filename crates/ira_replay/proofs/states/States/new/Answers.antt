use Rattle.ira_replay.proofs.Along.{are_placed_states}
use Rattle.ira_replay.proofs.states.States.new.Goals as goal

pub returns-clause-list : goal.returns-clause-list
returns-clause-list g c = rw c.first.ensures (are_placed_states _ _ (g.E.Listed.left c.args.source))
