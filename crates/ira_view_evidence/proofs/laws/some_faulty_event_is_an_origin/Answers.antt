use Rattle.ira_view_evidence.proofs.OriginLaws.{some_origin, steps_before}
use Rattle.ira_view_evidence.proofs.laws.some_faulty_event_is_an_origin.Goals as goal

pub returns-clause-some : goal.returns-clause-some
returns-clause-some c = some_origin

pub returns-clause-steps : goal.returns-clause-steps
returns-clause-steps c = steps_before
