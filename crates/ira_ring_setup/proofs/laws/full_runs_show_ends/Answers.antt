use Rattle.ira_ring_setup.proofs.AgreementShown.{full_logs_show}
use Rattle.ira_ring_setup.proofs.laws.full_runs_show_ends.Goals as goal

pub returns : goal.returns
returns c = full_logs_show
