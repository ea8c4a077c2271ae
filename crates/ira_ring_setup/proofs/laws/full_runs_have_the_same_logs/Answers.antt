use Rattle.ira_ring_setup.proofs.AgreementLaws.{full_logs_same}
use Rattle.ira_ring_setup.proofs.laws.full_runs_have_the_same_logs.Goals as goal

pub returns : goal.returns
returns c = full_logs_same
