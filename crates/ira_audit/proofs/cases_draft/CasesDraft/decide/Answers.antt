use Rattle.std.proofs.Common.{◌≡◌, None, Some, rules}
use Rattle.ira_audit.proofs.cases_draft.CasesDraft.decide.Goals as goal

pub returns-in-Some-clause-decided : goal.returns-in-Some-clause-decided
returns-in-Some-clause-decided g c = λ nodes certify found so_far.
    let some : c.args.self.now.certificate ≡ Some c.in-Some.certificate = search rules in
    c.decide_with.ensures.decided nodes certify found (rw some at so_far)

pub returns-in-None-clause-decided : goal.returns-in-None-clause-decided
returns-in-None-clause-decided g c = λ nodes certify found so_far.
    let none : c.args.self.now.certificate ≡ None = search rules in
    c.decide_without.ensures.decided nodes certify found c.args.self.now.certificate none so_far
