use Rattle.std.proofs.Common.{◌≡◌, List, Some, arith, length, refl, subst, take, ◌∙◌}
use Rattle.std.specs.Prelude.{slice_get}
use Rattle.std.proofs.lemmas.List.{take_all}
use Rattle.std.proofs.lemmas.Option.{slice_get_read}
use Rattle.ira_event.specs.Log.{Log}
use Rattle.ira_pred.specs.Case.{Conjunct}
use Rattle.ira_elim.specs.Found.{IsFound}
use Rattle.ira_audit.specs.Never.{NoCutMeetsAny}
use Rattle.ira_audit.proofs.LogTexts.{next_taken}
use Rattle.ira_audit.proofs.NeverMet.{absent_more}
use Rattle.ira_audit.proofs.Places.{different_places}
use Rattle.ira_audit.proofs.asked_question.AskedQuestion.first_present.Goals as goal

pub loop-number-preserved : goal.loop-number-preserved
loop-number-preserved g c =
    let asked = c.args.self.now in
    let logs = asked.logs in
    let cases = c.cases-cases.result.now in
    let i = c.loop-number.number in
    let case = c.index-cases-number.result in
    let at = slice_get_read cases (length cases) i case refl c.loop-number-test.true c.index-cases-number.is in
    let asked_at = subst (λ (cs : List (List Conjunct)). slice_get cs i ≡ Some case) c.cases-cases.ensures.value at in
    let differ = different_places asked.question c.cases-cases.ensures.valid i case asked_at in
    let same : c.in_ok-profiles.profiles ≡ logs = c.in_ok-profiles.ensures ∙ c.logs.ensures.value in
    let is = subst (λ (ls : List Log). IsFound ls case c.in_ok-found.found) same c.in_ok-found.ensures in
    let absent = subst (IsFound logs case) c.in_default.is is in
    subst (NoCutMeetsAny logs) (next_taken cases i case at)
    (absent_more logs (take i cases) case c.in_default.field-0 differ c.loop-number.invariant absent)

pub returns-in-Present : goal.returns-in-Present
returns-in-Present g c =
    let asked = c.args.self.now in
    let logs = asked.logs in
    let cases = c.cases-cases.result.now in
    let i = c.loop-number.number in
    let case = c.index-cases-number.result in
    let at = slice_get_read cases (length cases) i case refl c.loop-number-test.true c.index-cases-number.is in
    let same : c.in_ok-profiles.profiles ≡ logs = c.in_ok-profiles.ensures ∙ c.logs.ensures.value in
    let is = subst (λ (ls : List Log). IsFound ls case c.in_ok-found.found) same c.in_ok-found.ensures in
    record {
      case = case;
      case_at = subst (λ (cs : List (List Conjunct)). slice_get cs i ≡ Some case) c.cases-cases.ensures.value at;
      least = subst (IsFound logs case) c.in-Present.is is;
      before = subst (λ (cs : List (List Conjunct)). NoCutMeetsAny logs (take i cs)) c.cases-cases.ensures.value
          c.loop-number.invariant;
    }

pub returns : goal.returns
returns g c =
    let cases = c.cases-cases.result.now in
    let all = take_all c.loop-number.number cases (omega (arith, c.loop-number-test.false)) in
    subst (NoCutMeetsAny c.args.self.now.logs) (all ∙ c.cases-cases.ensures.value) c.loop-number.invariant
