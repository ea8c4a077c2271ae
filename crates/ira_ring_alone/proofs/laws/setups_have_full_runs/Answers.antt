use Rattle.ira_ring_alone.proofs.Existence.{full_run_exists}
use Rattle.ira_ring_alone.proofs.laws.setups_have_full_runs.Goals as goal

pub returns : goal.returns
returns c = full_run_exists
