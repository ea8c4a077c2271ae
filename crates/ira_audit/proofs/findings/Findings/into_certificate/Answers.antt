use Rattle.std.proofs.Common.{inr, refl}
use Rattle.ira_cert_text.specs.Certificate.{Certificate}
use Rattle.ira_audit.specs.Findings.{IsCertificateOf, MakeNoCertificate}
use Rattle.ira_audit.proofs.MadeCertificates.{made_exactly, made_or_none, accepted}
use Rattle.ira_audit.proofs.findings.Findings.into_certificate.Goals as goal

pub returns-in_default-clause-some : goal.returns-in_default-clause-some
returns-in_default-clause-some g c = λ k.
    let none : MakeNoCertificate c.args.self =
    rw c.in-Cases.is (rw c.in_default.is at c.in_ok-sections-in-Cases.ensures.sections) in
    inr (λ e. absurd cc, λ of. absurd (made_or_none c.args.self k of none))

pub returns-in-Some-clause-some : goal.returns-in-Some-clause-some
returns-in-Some-clause-some g c = λ k.
    let made : Certificate = record { nodes = c.in-Cases.nodes; sections = c.in-Some.sections.items } in
    let of : IsCertificateOf c.args.self made =
    rw c.in-Cases.is (refl, rw c.in-Some.is at c.in_ok-sections-in-Cases.ensures.sections) in
    inr (made_exactly c.args.self made of k)

pub returns-in-Some-clause-none : goal.returns-in-Some-clause-none
returns-in-Some-clause-none g c =
    let made : Certificate = record { nodes = c.in-Cases.nodes; sections = c.in-Some.sections.items } in
    let of : IsCertificateOf c.args.self made =
    rw c.in-Cases.is (refl, rw c.in-Some.is at c.in_ok-sections-in-Cases.ensures.sections) in
    (λ e. absurd cc, λ none. absurd (made_or_none c.args.self made of none))

pub returns-in-Some-clause-accepted : goal.returns-in-Some-clause-accepted
returns-in-Some-clause-accepted g c = λ texts question text k are e is.
    let made : Certificate = record { nodes = c.in-Cases.nodes; sections = c.in-Some.sections.items } in
    let of : IsCertificateOf c.args.self made =
    rw c.in-Cases.is (refl, rw c.in-Some.is at c.in_ok-sections-in-Cases.ensures.sections) in
    accepted texts question text c.args.self k are ((made_exactly c.args.self made of k).0 e) is
