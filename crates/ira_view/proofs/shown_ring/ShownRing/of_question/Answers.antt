use Rattle.std.proofs.Common.{◌≡◌, refl, subst}
use Rattle.std.proofs.lemmas.Result.{err_from_is_err_and}
use Rattle.ira_view_moment.specs.ChosenMoment.{IsMomentOf, cut_of}
use Rattle.ira_view_moment.specs.Told.{told_of}
use Rattle.ira_view.proofs.Moments.{no_moment, no_question}
use Rattle.ira_view.specs.FirstCut.{IsFirstMoment}
use Rattle.ira_view.proofs.shown_ring.ShownRing.of_question.Goals as goal

pub returns-in_err-asked : goal.returns-in_err-asked
returns-in_err-asked g c =
    let p = err_from_is_err_and c.from_residual.result c.from_residual.ensures.1 in
    rw (p.1, p.2) (no_question _ c.args.logs c.args.question.now c.args.case _ c.in_err-asked.ensures)

pub returns-in_err-moment : goal.returns-in_err-moment
returns-in_err-moment g c =
    let p = err_from_is_err_and c.from_residual-in_err-moment.result c.from_residual-in_err-moment.ensures.1 in
    let asked = c.in_ok-asked.asked in
    rw (p.1, p.2)
    (no_moment c.args.logs c.args.question.now asked.question c.args.case _ c.in_ok-asked.ensures.1
    c.in_ok-asked.ensures.2 c.in_err-moment.ensures.fault)

pub invariant_of-result : goal.invariant_of-result
invariant_of-result g c =
    let same : c.in_ok-asked.asked.logs ≡ c.args.logs = c.in_ok-asked.ensures.0 in
    subst (λ logs. IsMomentOf logs c.in_ok-moment.moment) same c.in_ok-moment.ensures.moment

pub returns : goal.returns
returns g c =
    let asked = c.in_ok-asked.asked in
    let same : asked.logs ≡ c.args.logs = c.in_ok-asked.ensures.0 in
    let first = subst (λ logs. IsFirstMoment logs asked.question.cases c.args.case (cut_of logs c.in_ok-moment.moment)
    (told_of c.in_ok-moment.moment)) same c.in_ok-moment.ensures.first in
    (refl, (asked.question, c.in_ok-asked.ensures.1, c.in_ok-asked.ensures.2, first))
