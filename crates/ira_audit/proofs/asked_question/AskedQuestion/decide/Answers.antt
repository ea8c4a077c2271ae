use Rattle.std.proofs.Common.{◌≡◌, List, length, refl, subst, ◌∙◌, rules}
use Rattle.std.proofs.lemmas.Option.{slice_get_read}
use Rattle.ira_event.specs.Log.{Log}
use Rattle.ira_elim.specs.Found.{IsFound}
use Rattle.ira_audit.proofs.LogTexts.{next_taken}
use Rattle.ira_audit.proofs.Zipped.{zipped_more}
use Rattle.ira_audit.proofs.asked_question.AskedQuestion.decide.Goals as goal

pub loop-case-preserved : goal.loop-case-preserved
loop-case-preserved g c =
    let logs = c.args.self.now.logs in
    let cases = c.cases-cases.result.now in
    let case = c.case-item.result in
    let found = c.in_ok-decide_profiled.field-0 in
    let at = slice_get_read cases (length cases) c.loop-case.case-index case refl (search rules) c.case-item.is in
    let same : c.in_ok-profiles.profiles ≡ logs = c.in_ok-profiles.ensures ∙ c.logs.ensures.value in
    let is = subst (λ (ls : List Log). IsFound ls case found) same c.in_ok-decide_profiled.ensures in
    rw (c.in_ok-push.ensures.items, ← next_taken cases c.loop-case.case-index case at)
    (zipped_more (IsFound logs) _ _ case found c.loop-case.invariant is)
