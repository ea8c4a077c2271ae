use Rattle.ira_ring_setup.proofs.AgreementEnds.{shows_one_end}
use Rattle.ira_ring_setup.proofs.laws.logs_show_one_end.Goals as goal

pub returns : goal.returns
returns c = shows_one_end
