use Rattle.ira_cert.proofs.NoCut.{sound_leaves_no_cut}
use Rattle.ira_elim.proofs.SomeFound.{case_decided, one_least}
use Rattle.ira_elim.proofs.laws.a_case_is_absent_or_present.Goals as goal

pub returns-clause-either : goal.returns-clause-either
returns-clause-either c = case_decided

pub returns-clause-never_both : goal.returns-clause-never_both
returns-clause-never_both c = sound_leaves_no_cut

pub returns-clause-one_least : goal.returns-clause-one_least
returns-clause-one_least c = one_least
