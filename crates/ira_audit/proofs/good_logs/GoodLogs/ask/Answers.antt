use Rattle.std.proofs.Common.{◌≡◌, ◌≢◌, length, ap, refl, inr, subst, sym, ◌∙◌, rules}
use Rattle.std.proofs.lemmas.Result.{err_from_is_err_and}
use Rattle.ira_event.proofs.Unless.{unless_err, unless_ok}
use Rattle.ira_audit.specs.GoodLogs.{AreGood}
use Rattle.ira_audit.proofs.RefusedTexts.{question_refused}
use Rattle.ira_audit.proofs.good_logs.GoodLogs.ask.Goals as goal

pub returns-in_err-question : goal.returns-in_err-question
returns-in_err-question g c =
    let f = c.in_err-question.field-0.0 in
    let r = c.from_residual-in_err-question.result in
    let p = err_from_is_err_and r c.from_residual-in_err-question.ensures.1 in
    question_refused _ c.args.text.now (length c.args.self.now) r p.0 f p.1 p.2
    (λ other. (unless_err f _ _ other (c.in_err-question.ensures.err f)).0 refl)

pub returns-then-get : goal.returns-then-get
returns-then-get g c =
    let q = c.in_ok-question.question in
    let is = (unless_ok q _ _ (c.in_ok-question.ensures.ok q)).0 refl in
    let size : c.size.result ≡ length c.args.self.now = c.size.ensures.value ∙ ap length c.self.view_is in
    let other : q.nodes ≢ c.size.result = search rules in
    inr (q, is, (λ e. other (e ∙ sym size)), refl)

pub invariant_of-result : goal.invariant_of-result
invariant_of-result g c =
    let logs = sym c.in_ok-dependencies.ensures in
    let same : c.in_ok-question.question.nodes ≡ c.size.result = search rules in
    (subst AreGood logs c.self.invariant, same ∙ c.size.ensures.value ∙ ap length logs)

pub returns : goal.returns
returns g c =
    let q = c.in_ok-question.question in
    let is = (unless_ok q _ _ (c.in_ok-question.ensures.ok q)).0 refl in
    let size : c.size.result ≡ length c.args.self.now = c.size.ensures.value ∙ ap length c.self.view_is in
    let same : q.nodes ≡ c.size.result = search rules in
    (c.in_ok-dependencies.ensures ∙ c.self.view_is, is, same ∙ size)
