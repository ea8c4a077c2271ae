use Rattle.std.proofs.Common.{◌≡◌, List, refl, subst, length, sym, rules}
use Rattle.ira_cert_text.specs.Certificate.{Section}
use Rattle.ira_cert_text.specs.declared.cert_step.CertStep.{CertStep}
use Rattle.ira_elim.specs.Found.{IsAbsence}
use Rattle.ira_audit.proofs.Counting.{added_certified, added_present}
use Rattle.ira_audit.proofs.cases_draft.CasesDraft.decide_with.Goals as goal

pub returns-in_ok-add-in-Absent-clause-decided : goal.returns-in_ok-add-in-Absent-clause-decided
returns-in_ok-add-in-Absent-clause-decided g c = λ nodes certify found so_far.
    let logs = c.args.profiles.now in
    let case = c.args.case.now in
    let decided = rw c.in-Absent.is at c.in_ok-steps.ensures in
    let section : Section = record { steps = c.in-Absent.steps.items; spent = c.in-Absent.spent } in
    let absence = subst (λ (ss : List CertStep). IsAbsence logs case (record { steps = ss; spent = c.in-Absent.spent }))
    (sym decided.1) decided.2 in
    let counted : c.of-steps.result ≡ length section.steps = search rules in
    added_certified logs case nodes certify found c.args.self.now.are_absent _ so_far _ c.args.certificate
    c.add.new.self section
    c.of-steps.result refl refl absence counted c.in_ok-add-in-Absent.ensures

pub returns-in-Present-clause-decided : goal.returns-in-Present-clause-decided
returns-in-Present-clause-decided g c = λ nodes certify found so_far.
    let least = rw c.in-Present.is at c.in_ok-steps.ensures in
    added_present c.args.profiles.now c.args.case.now nodes certify found _ _ so_far _ c.in-Present.cut least
