use Rattle.ira_replay.proofs.Alike.{local_runs_alike}
use Rattle.ira_replay.proofs.laws.local_runs_go_on_alike.Goals as goal

pub returns : goal.returns
returns c = local_runs_alike
