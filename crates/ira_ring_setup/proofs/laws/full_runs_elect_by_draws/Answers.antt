use Rattle.ira_ring_setup.proofs.Elected.{full_runs_elect_by_draws}
use Rattle.ira_ring_setup.proofs.laws.full_runs_elect_by_draws.Goals as goal

pub returns : goal.returns
returns c = full_runs_elect_by_draws
