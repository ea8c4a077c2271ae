use Rattle.ira_view.proofs.Moments.{any_case}
use Rattle.ira_view.proofs.find_moment.first_present.Goals as goal

pub returns-in_default-clause-found : goal.returns-in_default-clause-found
returns-in_default-clause-found g c =
    rw c.in_default.is
    (any_case c.args.asked.now c.in_ok-first_present.field-0 c.in_ok-first_present.ensures)

pub returns-then-number-cases-clause-fault : goal.returns-then-number-cases-clause-fault
returns-then-number-cases-clause-fault g c =
    rw c.in-Some.is (rw c.cases.ensures.value at c.if-number-cases.true)
