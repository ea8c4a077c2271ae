use Rattle.ira_cert.proofs.NoCut.{sound_leaves_no_cut}
use Rattle.ira_cert.proofs.laws.sound_sections_leave_no_cut.Goals as goal

pub returns : goal.returns
returns c = sound_leaves_no_cut
