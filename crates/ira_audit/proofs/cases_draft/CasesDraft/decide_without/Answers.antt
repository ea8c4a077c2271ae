use Rattle.ira_audit.proofs.Counting.{added_present, added_uncertified}
use Rattle.ira_audit.proofs.cases_draft.CasesDraft.decide_without.Goals as goal

pub returns-in-Absent-clause-decided : goal.returns-in-Absent-clause-decided
returns-in-Absent-clause-decided g c = λ nodes certify found certificate none so_far.
    let decided = rw c.in-Absent.is at c.in_ok-steps.ensures in
    added_uncertified c.args.profiles.now c.args.case.now nodes certify found c.args.self.now.are_absent certificate
    so_far _ c.in-Absent.steps c.in-Absent.spent none decided

pub returns-in-Present-clause-decided : goal.returns-in-Present-clause-decided
returns-in-Present-clause-decided g c = λ nodes certify found certificate none so_far.
    let least = rw c.in-Present.is at c.in_ok-steps.ensures in
    added_present c.args.profiles.now c.args.case.now nodes certify found _ _ so_far _ c.in-Present.cut least
