use Rattle.ira_audit.proofs.Places.{places_of_logs}
use Rattle.ira_audit.proofs.asked_question.AskedQuestion.cases.Goals as goal

pub returns-clause-places : goal.returns-clause-places
returns-clause-places g c =
    rw (← c.self.view_is) (λ i case at.
    places_of_logs c.self.inside.question c.self.inside.dependencies c.cases.ensures.valid c.self.invariant.1 i case at)
