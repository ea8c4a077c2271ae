use Rattle.ira_ring_setup.proofs.AgreementLaws.{recording_agrees}
use Rattle.ira_ring_setup.proofs.laws.recordings_agree.Goals as goal

pub returns : goal.returns
returns c = recording_agrees
