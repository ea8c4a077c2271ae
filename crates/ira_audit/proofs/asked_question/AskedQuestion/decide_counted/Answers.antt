use Rattle.std.proofs.Common.{◌≡◌, ◌<◌, ◌^◌, ◌++◌, ◌∷◌, [], List, Result, Ok, Err, IfOk, length, take, refl, subst, sym, ◌∙◌, arith}
use Rattle.std.proofs.Common.{rules}
use Rattle.std.specs.List.{AllZip}
use Rattle.std.proofs.lemmas.List.{take_all}
use Rattle.std.proofs.lemmas.Option.{slice_get_read}
use Rattle.std.proofs.lemmas.Slice.Zip.{AllZip-long}
use Rattle.ira_event.specs.Log.{Log}
use Rattle.ira_pred.specs.Case.{Conjunct}
use Rattle.ira_elim.specs.Found.{IsFound}
use Rattle.ira_audit.specs.declared.findings.Findings.TheVariants.{Cases}
use Rattle.ira_audit.proofs.LogTexts.{next_taken}
use Rattle.ira_audit.proofs.Counting.{list_of}
use Rattle.ira_audit.proofs.Zipped.{zipped_more}
use Rattle.ira_audit.proofs.asked_question.AskedQuestion.decide_counted.Goals as goal

ok_into : {T E : Type 0} (P Q : T → Type 0) → ((x : T) → P x → Q x) → (r : Result T E) → IfOk r P → IfOk r Q
ok_into P Q into (Ok x) h = into x h
ok_into P Q into (Err e) h = tt

pub loop-case-preserved : goal.loop-case-preserved
loop-case-preserved g c =
    let logs = c.args.self.now.logs in
    let cases = c.cases-cases.result.now in
    let i = c.loop-case.case-index in
    let so_far = c.loop-case.invariant in
    let case = c.case-item.result in
    let at = slice_get_read cases (length cases) i case refl (search rules) c.case-item.is in
    let same : c.in_ok-profiles.profiles ≡ logs = c.in_ok-profiles.ensures ∙ c.logs.ensures.value in
    let next = c.in_ok-decide_next.ensures (length logs) c.args.certify so_far.0 so_far.2 in
    let is = subst (λ (ls : List Log). IsFound ls case next.0) same next.1 in (
      so_far.0 ++ next.0 ∷ [],
      subst (λ (cs : List (List Conjunct)). AllZip (IsFound logs) cs (so_far.0 ++ next.0 ∷ []))
          (next_taken cases i case at)
          (zipped_more (IsFound logs) (take i cases) so_far.0 case next.0 so_far.1 is),
      next.2,
    )

pub returns : goal.returns
returns g c =
    let asked = c.args.self.now in
    let logs = asked.logs in
    let cases = c.cases-cases.result.now in
    let so_far = c.loop-case.invariant in
    let all = take_all c.loop-case.case-index cases (omega (arith, c.loop-case-test.false)) in
    let found = subst (λ (cs : List (List Conjunct)). AllZip (IsFound logs) cs so_far.0)
    (all ∙ c.cases-cases.ensures.value) so_far.1 in
    let few : length so_far.0 < 2 ^ 63 =
    omega (arith, AllZip-long (IsFound logs) asked.question.cases so_far.0 found, c.cases-cases.ensures.valid.count) in
    let list = list_of c.self.inside.alloc so_far.0 few in
    let findings = Cases (length logs) list.0 in
    let are = subst (λ (fs : List _). AllZip (IsFound logs) asked.question.cases fs) (sym list.1) found in
    ok_into _ _ (λ decided is. (findings, (refl, are), is)) c.finish.result
    (c.finish.ensures c.args.certify (length logs) so_far.0 findings so_far.2 (refl, list.1))
