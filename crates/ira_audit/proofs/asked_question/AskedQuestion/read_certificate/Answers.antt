use Rattle.std.proofs.Common.{◌≡◌, ◌≢◌, length, ap, refl, inr, sym, ◌∙◌, rules}
use Rattle.std.proofs.lemmas.Result.{err_from_is_err_and}
use Rattle.ira_event.proofs.Unless.{unless_err, unless_ok}
use Rattle.ira_audit.proofs.RefusedTexts.{certificate_refused}
use Rattle.ira_audit.proofs.asked_question.AskedQuestion.read_certificate.Goals as goal

pub returns-in_err-certificate : goal.returns-in_err-certificate
returns-in_err-certificate g c =
    let f = c.in_err-certificate.field-0.0 in
    let r = c.from_residual-in_err-certificate.result in
    let p = err_from_is_err_and r c.from_residual-in_err-certificate.ensures.1 in
    certificate_refused _ c.args.text.now (length c.args.self.now.logs) r p.0 f p.1 p.2
    (λ other. (unless_err f _ _ other (c.in_err-certificate.ensures.err f)).0 refl)

pub returns-then-get : goal.returns-then-get
returns-then-get g c =
    let k = c.in_ok-certificate.certificate in
    let is = (unless_ok k _ _ (c.in_ok-certificate.ensures.ok k)).0 refl in
    let size : c.size.result ≡ length c.args.self.now.logs = c.size.ensures.value ∙ ap length c.logs.ensures.value in
    let other : k.nodes ≢ c.size.result = search rules in
    inr (k, is, (λ e. other (e ∙ sym size)), refl)

pub returns : goal.returns
returns g c =
    let k = c.in_ok-certificate.certificate in
    let is = (unless_ok k _ _ (c.in_ok-certificate.ensures.ok k)).0 refl in
    let size : c.size.result ≡ length c.args.self.now.logs = c.size.ensures.value ∙ ap length c.logs.ensures.value in
    let same : k.nodes ≡ c.size.result = search rules in
    (is, same ∙ size)
