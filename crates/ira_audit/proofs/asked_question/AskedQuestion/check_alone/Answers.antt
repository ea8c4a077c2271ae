use Rattle.std.proofs.Common.{◌≡◌, ◌∙◌, List, Some, slice_get, subst, sym}
use Rattle.ira_event.specs.Log.{Log}
use Rattle.ira_pred.specs.Case.{Conjunct}
use Rattle.ira_cert.specs.Conjuncts.{HasPlacesOf}
use Rattle.ira_audit.proofs.asked_question.AskedQuestion.check_alone.Goals as goal

pub check_one_by_one-requires-clause-places : goal.check_one_by_one-requires-clause-places
check_one_by_one-requires-clause-places g c = λ k case at.
    let same : c.in_ok-profiles.profiles ≡ c.args.self.now.logs = c.in_ok-profiles.ensures ∙ c.logs.ensures.value in
    subst (λ (ls : List Log). HasPlacesOf ls case) (sym same) (c.cases-cases.ensures.places k case
    (subst (λ (cs : List (List Conjunct)). slice_get cs k ≡ Some case) c.cases-cases.ensures.value at))

pub returns : goal.returns
returns g c =
    c.refuse_unsound.ensures c.args.self.now.logs c.args.self.now.question.cases c.args.certificate.now.sections
    c.in_ok-sections.ensures.1
    (rw (c.in_ok-profiles.ensures ∙ c.logs.ensures.value, c.cases-cases.ensures.value, c.in_ok-sections.ensures.0)
    at c.in_ok-unsound.ensures)
