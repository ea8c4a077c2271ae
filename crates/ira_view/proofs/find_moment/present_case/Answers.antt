use Rattle.ira_view.proofs.Moments.{absent_case, met_case}
use Rattle.ira_view.proofs.find_moment.present_case.Goals as goal

pub returns-in-Present : goal.returns-in-Present
returns-in-Present g c =
    met_case c.args.asked.now c.args.number c.in-Present.cut c.requires.within
    (λ case at. rw c.in-Present.is at c.in_ok-cut.ensures case at)

pub returns : goal.returns
returns g c =
    absent_case c.args.asked.now c.args.number c.in-Absent.field-0 c.requires.valid c.requires.within
    (λ case at. rw c.in-Absent.is at c.in_ok-cut.ensures case at)
