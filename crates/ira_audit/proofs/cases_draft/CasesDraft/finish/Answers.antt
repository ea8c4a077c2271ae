use Rattle.std.proofs.Common.{◌≡◌, None, Some, refl, subst, sym, ◌∙◌}
use Rattle.ira_cert_text.specs.CertDraft.{IsDraft}
use Rattle.ira_audit.proofs.Counting.{decided_of}
use Rattle.ira_audit.proofs.cases_draft.CasesDraft.finish.Goals as goal

pub returns-in_default : goal.returns-in_default
returns-in_default g c = λ certify nodes found findings drafted of.
    decided_of certify nodes found findings c.args.self _ drafted of refl refl refl
    (λ d x is h. absurd (let none : c.args.self.certificate ≡ None = c.in_default.is in
    let never : None ≡ Some d = sym none ∙ is in cc))

pub returns : goal.returns
returns g c = λ certify nodes found findings drafted of.
    let some : c.args.self.certificate ≡ Some c.in-Some.draft = c.in-Some.is in
    decided_of certify nodes found findings c.args.self _ drafted of refl refl refl
    (λ d x is h.
    let same : d ≡ c.in-Some.draft = (let e : Some d ≡ Some c.in-Some.draft = sym is ∙ some in cc) in
    c.in_ok-finish.ensures x (subst (λ y. IsDraft x.nodes y x.sections) same h))
