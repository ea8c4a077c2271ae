use Rattle.ira_cert.proofs.FoundVerdict.{verdict_of_ordered}
use Rattle.ira_cert.proofs.OneVerdict.{one_verdict}
use Rattle.ira_cert.proofs.SomeVerdict.{some_verdict}
use Rattle.ira_cert.proofs.laws.a_section_has_one_verdict.Goals as goal

pub returns-clause-one : goal.returns-clause-one
returns-clause-one c = λ logs case section a b differ. one_verdict logs case differ section a b

pub returns-clause-some : goal.returns-clause-some
returns-clause-some c = some_verdict

pub returns-clause-found : goal.returns-clause-found
returns-clause-found c = verdict_of_ordered
